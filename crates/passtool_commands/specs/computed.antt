-- Computes whether `IsCaveatText` is true for a text. By the law `reads_what_is_understood` of
-- `pass_caveats`, the computed result agrees with the definition.

pub mod Arguments

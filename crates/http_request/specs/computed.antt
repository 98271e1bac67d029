-- The functions of `computed` compute values that the other definitions of `specs/` only describe.
-- Laws state that the functions of `computed` agree with the other definitions.

pub mod Path

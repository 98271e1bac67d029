-- Computes the values that other definitions in `specs/` describe. A law states that the computed
-- values agree with these definitions.

pub mod Words

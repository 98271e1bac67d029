-- Computes the values that other definitions in `specs/` describe. Laws state that the computed
-- values agree with these definitions.

pub mod TextReaders

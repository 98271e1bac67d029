-- Functions that compute the results that `specs/` defines. Laws state that the computed results
-- agree with the definitions.

pub mod Parts
pub mod Reading
pub mod V1Reading
pub mod V2Reading

-- Functions that compute the results that `specs/` defines. Laws state that the computed results
-- agree with the definitions.

pub mod AnyForm
pub mod JsonReading

-- Functions that compute decoded passes and machine events. Laws state that the functions agree
-- with the other definitions in `specs/`.
pub mod DecodedPass

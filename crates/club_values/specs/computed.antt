-- Functions that compute the value that a text encodes. Laws state that the functions agree with
-- the other definitions in `specs/`.

pub mod TextOf

pub mod Ask
pub mod Code
pub mod Object
pub mod Output

pub mod Body
pub mod Text

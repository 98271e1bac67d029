pub mod Widths
pub mod Rows
pub mod Words
pub mod Laws
pub mod computed

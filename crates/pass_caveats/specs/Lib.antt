pub mod Choices
pub mod Caveat
pub mod Fault
pub mod Laws
pub mod Spending
pub mod computed

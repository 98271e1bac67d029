pub mod Values
pub mod Fault
pub mod Arguments
pub mod computed

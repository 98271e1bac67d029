pub mod Name
pub mod Number
pub mod Moment
pub mod Kind
pub mod Laws
pub mod computed

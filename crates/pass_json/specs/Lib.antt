pub mod Json
pub mod AnyForm
pub mod JsonWriting
pub mod Laws
pub mod computed

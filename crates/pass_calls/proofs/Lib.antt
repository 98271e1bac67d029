pub mod HeldLemmas
pub mod JsonBytes
pub mod FormBytes

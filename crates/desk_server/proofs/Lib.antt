pub mod ServerLemmas
pub mod Tracing

pub mod ChoiceLemmas
pub mod CaveatLemmas

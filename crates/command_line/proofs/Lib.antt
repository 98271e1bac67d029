pub mod RowLemmas
pub mod GivenLemmas

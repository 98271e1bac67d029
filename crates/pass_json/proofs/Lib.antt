pub mod ObjectLemmas
pub mod ExactLemmas
pub mod WrittenLemmas

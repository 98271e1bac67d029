pub mod ArgumentsLemmas

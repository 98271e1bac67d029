pub mod ZoneLemmas

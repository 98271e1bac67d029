pub mod TextLemmas
pub mod DayLemmas

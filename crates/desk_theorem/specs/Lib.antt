pub mod Crash
pub mod FromNothing

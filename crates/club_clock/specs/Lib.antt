pub mod Zone
pub mod Moments

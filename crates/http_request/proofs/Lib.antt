pub mod Common
pub mod FrameLemmas
pub mod RouteLemmas

pub mod RunLemmas
pub mod FollowedTrace
pub mod OneList

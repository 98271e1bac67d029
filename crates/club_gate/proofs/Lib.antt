pub mod Common
pub mod VerifyLemmas
pub mod DeskLemmas
pub mod FollowedRuns

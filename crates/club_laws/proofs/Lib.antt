pub mod AnswerCases
pub mod SoundSteps
pub mod ServedPasses
pub mod PointRuns
pub mod SoloRuns
pub mod MemberParts

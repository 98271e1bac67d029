pub mod Common
pub mod FieldLemmas
pub mod Base64Lemmas
pub mod ReadingLemmas
pub mod WholeV1
pub mod WholeV2
pub mod WrittenLemmas

pub mod ReplyLemmas
pub mod SheetLemmas

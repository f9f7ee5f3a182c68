pub mod AnswerReplies
pub mod Parts
pub mod Slots

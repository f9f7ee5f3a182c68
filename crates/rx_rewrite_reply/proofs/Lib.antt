pub mod AnswerReplies
pub mod FlagsLeft
pub mod Parts

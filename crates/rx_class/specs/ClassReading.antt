pub mod Answers
pub mod Items

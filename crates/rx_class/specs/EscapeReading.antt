pub mod Answers
pub mod CommonEscapes
pub mod Found
pub mod Steps

pub mod Command
pub mod Constructs
pub mod Dialects
pub mod Features
pub mod Names
pub mod Notices

pub mod FlagText
pub mod Spoiling
pub mod Refused

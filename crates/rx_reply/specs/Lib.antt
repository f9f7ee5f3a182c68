pub mod Added
pub mod Flags
pub mod Places

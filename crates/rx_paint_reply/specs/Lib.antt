pub mod Tokens
pub mod Colors
pub mod Escapes

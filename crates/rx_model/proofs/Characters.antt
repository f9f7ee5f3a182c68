pub mod Backslashes
pub mod Choices
pub mod Decoding
pub mod Escapes
pub mod LegacyEscapes

pub mod Decoding
pub mod EscapeFronts
pub mod Escapes
pub mod LegacyEscapes
pub mod UnicodeEscapes
pub mod UnitKinds

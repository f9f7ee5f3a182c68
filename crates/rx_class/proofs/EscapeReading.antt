pub mod Bounds
pub mod CommonEscapes
pub mod Gives
pub mod LegacyLooks
pub mod Steps

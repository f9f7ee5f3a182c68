pub mod Asked
pub mod Modes

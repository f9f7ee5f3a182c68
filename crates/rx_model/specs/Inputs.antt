pub mod Environment
pub mod Flags
pub mod Texts
pub mod Inputs
pub mod Modes

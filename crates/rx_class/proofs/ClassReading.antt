pub mod Atoms
pub mod Ends
pub mod Items
pub mod Places
pub mod Ranges

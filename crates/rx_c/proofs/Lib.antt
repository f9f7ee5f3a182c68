pub mod Asked
pub mod Mapped
pub mod Ranges

pub mod Messages
pub mod Moves
pub mod Pairwise
pub mod Tables
pub mod Texts
pub mod Writing

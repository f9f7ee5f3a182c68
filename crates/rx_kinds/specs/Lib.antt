pub mod Codes
pub mod Inner
pub mod Leaves

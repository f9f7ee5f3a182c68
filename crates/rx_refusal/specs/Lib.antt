pub mod Kinds
pub mod Values
pub mod Helps
pub mod Fields

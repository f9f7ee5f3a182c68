pub mod Characters
pub mod Identifiers
pub mod Properties

pub mod CountsReading
pub mod Quantifiers

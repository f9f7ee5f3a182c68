pub mod CountsReading
pub mod BlockedCounts
pub mod DecimalDigits
pub mod OneQuantifier
pub mod Quantifiers

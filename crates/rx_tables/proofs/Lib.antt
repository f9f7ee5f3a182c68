pub mod Digits
pub mod Separators
pub mod Tables
pub mod WordSearches

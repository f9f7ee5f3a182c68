pub mod Alternatives
pub mod FrontReading
pub mod Fronts
pub mod NestedSpans
pub mod OneRow
pub mod Prefixes
pub mod SameValues
pub mod Splits

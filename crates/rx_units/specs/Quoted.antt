pub mod Escapes
pub mod Elements
pub mod Values
pub mod Texts
pub mod Faults
pub mod Fronts
pub mod Found
pub mod Answers

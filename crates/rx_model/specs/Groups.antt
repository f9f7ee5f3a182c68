pub mod GroupFronts
pub mod GroupNameReading
pub mod GroupNames
pub mod Groups
pub mod ModifierFronts
pub mod Modifiers
pub mod NameFronts

pub mod Offsets
pub mod Nodes
pub mod Refusals
pub mod Texts
pub mod Utf16
pub mod EmptyTexts
pub mod FirstRefusals

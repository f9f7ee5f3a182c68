pub mod Cuts
pub mod GroupStates
pub mod MarkTexts
pub mod Marks

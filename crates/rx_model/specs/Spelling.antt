pub mod CharacterText
pub mod ClassText
pub mod OneLine
pub mod ReadBack
pub mod Spelling

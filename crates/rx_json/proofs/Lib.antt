pub mod Lists
pub mod Adding
pub mod Trees
pub mod Openings
pub mod Tasks
pub mod Parts
pub mod Names
pub mod GroupsTold

pub mod Commands
pub mod ConstructLists
pub mod FeatureLists
pub mod NameLists
pub mod Plain

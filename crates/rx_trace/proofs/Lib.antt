pub mod Characters
pub mod EqualUnits
pub mod GroupNames
pub mod Lists
pub mod Places
pub mod Rows
pub mod Straight
pub mod Unsupported

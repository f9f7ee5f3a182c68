pub mod Law
pub mod Made
pub mod Nodes
pub mod Ranges
pub mod Records

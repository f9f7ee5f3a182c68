pub mod Notes
pub mod Visitor

pub mod Bodies
pub mod Early
pub mod Events
pub mod Names
pub mod OpenGroups
pub mod Shapes
pub mod Token

pub mod Asked
pub mod Codes
pub mod Placed
pub mod Told

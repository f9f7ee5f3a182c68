pub mod Characters
pub mod ClassTasks
pub mod Leaves
pub mod Spelled
pub mod Tasks
pub mod Utf8
pub mod Writes

pub mod ClassTasks
pub mod Tasks
pub mod Writers

pub mod Gives
pub mod Halts
pub mod Runs
pub mod Spans
pub mod Steps
pub mod Tables

pub mod Edges
pub mod NestingSteps
pub mod Owners
pub mod Paints
pub mod Runs
pub mod Steps

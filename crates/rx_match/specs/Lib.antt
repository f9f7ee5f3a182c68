pub mod Kinds
pub mod Machines
pub mod MachineSteps
pub mod Programs
pub mod Runs
pub mod SavedSlots
pub mod Sound

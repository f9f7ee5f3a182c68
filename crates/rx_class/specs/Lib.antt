pub mod ClassReading
pub mod EscapeReading
pub mod Fitting
pub mod Keeping
pub mod PropertyReading
pub mod ReadingSteps
pub mod Readings
pub mod SetReading

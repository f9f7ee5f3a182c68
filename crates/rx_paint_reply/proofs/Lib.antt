pub mod Lists
pub mod Nesting
pub mod Shown
pub mod Spans
pub mod Written

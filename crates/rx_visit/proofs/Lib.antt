pub mod Alone
pub mod Children
pub mod Finders
pub mod Named
pub mod Orders
pub mod Steps
pub mod Walks

pub mod Lawful
pub mod Questions

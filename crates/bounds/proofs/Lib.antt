pub mod Entries
pub mod RoundedUp

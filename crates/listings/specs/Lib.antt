pub mod Laying
pub mod Kept
pub mod Listings
pub mod Texts
pub mod Written
pub mod Answers

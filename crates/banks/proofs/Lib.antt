pub mod OneMore
pub mod Surveys

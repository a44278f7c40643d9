pub mod Climbing
pub mod Mirroring
pub mod OneMore

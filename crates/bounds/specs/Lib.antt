pub mod Bounds
pub mod Sound

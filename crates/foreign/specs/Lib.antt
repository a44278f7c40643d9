pub mod AboveHalf
pub mod AboveHalfSound
pub mod ZeroLaw

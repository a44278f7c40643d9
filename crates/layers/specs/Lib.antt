pub mod Layers
pub mod ComposedLaw
pub mod ScaledLaw
pub mod SymmetrisedLaw

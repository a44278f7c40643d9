pub mod Functions
pub mod LowerFigure

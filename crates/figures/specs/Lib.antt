pub mod Figures
pub mod LayerFigures
pub mod Wrong

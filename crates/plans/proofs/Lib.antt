pub mod OverBars

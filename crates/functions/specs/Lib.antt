pub mod Made
pub mod Values
pub mod CountingLaw
pub mod Quotients
pub mod SuperadditiveValues

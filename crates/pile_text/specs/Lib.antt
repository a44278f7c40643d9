pub mod Kinds
pub mod Laid
pub mod Lower
pub mod Guarantee

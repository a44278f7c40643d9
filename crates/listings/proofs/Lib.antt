pub mod Scanning
pub mod Keeping
pub mod WrittenTexts

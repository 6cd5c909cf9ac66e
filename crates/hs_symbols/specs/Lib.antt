pub mod Words
pub mod Symbols
pub mod Kept
pub mod Ends

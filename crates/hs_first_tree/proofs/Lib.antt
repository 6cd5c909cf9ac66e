pub mod Bridge
pub mod Unused
mod Rows

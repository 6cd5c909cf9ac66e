pub mod Bytes
pub mod Tokens
pub mod Reads
pub mod Layout
pub mod Lines

pub mod Bytes
pub mod Environment
pub mod Ends
pub mod Rows

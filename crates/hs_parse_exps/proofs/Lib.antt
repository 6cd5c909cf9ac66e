pub mod Arms
pub mod Full
pub mod Last
pub mod Starts

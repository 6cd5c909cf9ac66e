pub mod Asks
pub mod Outputs
pub mod Prefixes
pub mod Prints
pub mod Whole

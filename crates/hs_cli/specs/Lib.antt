pub mod Command
pub mod Asked
pub mod Lines
pub mod Status
pub mod Output
pub mod Ends
pub mod Written

pub mod Exact
pub mod Modular
pub mod Division
pub mod Shifts

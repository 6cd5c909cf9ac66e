pub mod Once
pub mod Printed
pub mod Rows
pub mod Pieces

pub mod Kind
pub mod Word
pub mod Arithmetic
pub mod Residues

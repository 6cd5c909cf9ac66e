pub mod Bytes
pub mod Marks
pub mod Numbers
pub mod Comments
pub mod Pieces
pub mod Lexes
pub mod Places
pub mod Spellings

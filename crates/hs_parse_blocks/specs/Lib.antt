pub mod Annotation
pub mod Body
pub mod Places

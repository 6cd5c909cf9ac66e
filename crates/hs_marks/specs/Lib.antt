pub mod First
pub mod Marked
pub mod Says
pub mod Told

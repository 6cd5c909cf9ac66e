mod Covers
mod Environment
mod Told
mod Rows

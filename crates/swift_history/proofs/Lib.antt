mod Rows
pub mod Replayed

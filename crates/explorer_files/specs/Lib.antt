pub mod Steps
pub mod Saved

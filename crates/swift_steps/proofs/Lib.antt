pub mod Prelude
pub mod Copies
pub mod Given
pub mod Led
pub mod Ran
pub mod Rows
pub mod Steps

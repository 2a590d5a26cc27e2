pub mod Prelude
pub mod Answered
mod Blocks
mod Breaks
mod Celled
mod Drawing
pub mod Keeping
mod More
pub mod Past
pub mod Ranges
mod Rows

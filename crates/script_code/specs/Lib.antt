pub mod Tree
pub mod Value
pub mod Seen
pub mod Cells
pub mod Instructions
pub mod Layout
pub mod Statements

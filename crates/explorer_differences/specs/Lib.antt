pub mod Words
pub mod Lines
pub mod Names
pub mod Difference

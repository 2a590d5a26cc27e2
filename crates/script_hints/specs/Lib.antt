pub mod Helps
pub mod Mistakes
pub mod Spelled

pub mod Prelude
mod Applied
mod Events
mod Executors
mod Explained
pub mod Joined
pub mod Plain

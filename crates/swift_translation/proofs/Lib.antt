mod Bodies
pub mod Feeds
mod Names
mod Values
mod Writes

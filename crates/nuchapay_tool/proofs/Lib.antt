mod Feeds
pub mod LaidOut
pub mod Laying
mod Shown

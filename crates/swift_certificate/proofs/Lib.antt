pub mod Prelude
pub mod Blocks
pub mod Counted
pub mod Ended
pub mod Places
pub mod Played
pub mod Replays
pub mod Steps

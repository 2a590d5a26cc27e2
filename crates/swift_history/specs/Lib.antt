pub mod Checks
pub mod TurnEnds
pub mod Histories
pub mod Orderly
pub mod Jobs
pub mod Replay

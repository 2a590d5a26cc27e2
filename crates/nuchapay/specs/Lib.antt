pub mod Inputs
pub mod LastTurns
pub mod Runs
pub mod Scheduled
pub mod Schedules
pub mod Searches
pub mod SwiftSearches
pub mod Differences

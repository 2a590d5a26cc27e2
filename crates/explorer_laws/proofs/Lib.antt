pub mod Prelude
mod Records
pub mod OfRuns
pub mod Meeting
pub mod SwiftEnds

pub mod Strings
pub mod Schedules
pub mod AnswerJson
pub mod SwiftJson

pub mod Logs
pub mod EntriesInside
pub mod MarksInside
pub mod LogInside

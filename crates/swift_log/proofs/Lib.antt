pub mod EntriesRead
pub mod Marks
pub mod LogSteps

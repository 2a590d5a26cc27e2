pub mod Answers
pub mod Model

pub mod Meaning
pub mod Texts
pub mod Comments
pub mod Questions
pub mod Answers
pub mod FailureText
pub mod FirstInside

pub mod Expressions
pub mod Flow
pub mod Names
pub mod Pages

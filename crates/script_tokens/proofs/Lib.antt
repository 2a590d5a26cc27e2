pub mod Few
pub mod Numbers
pub mod Reading
pub mod Texts
pub mod Unique

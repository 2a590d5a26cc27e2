pub mod Forms
pub mod Groups
pub mod Searches

mod Lists
pub mod Places
pub mod Prefixes
mod Rounds

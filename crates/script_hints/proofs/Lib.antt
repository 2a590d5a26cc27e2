pub mod Filling
pub mod Told

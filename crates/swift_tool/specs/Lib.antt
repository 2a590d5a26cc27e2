pub mod Ended
pub mod Input
pub mod Run
pub mod Json

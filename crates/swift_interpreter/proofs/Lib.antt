pub mod Prelude
pub mod SavedLists
pub mod Arguments
pub mod Settling
pub mod Turns
pub mod AtOnce

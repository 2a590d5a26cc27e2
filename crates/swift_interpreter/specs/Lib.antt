pub mod Turn
pub mod Frames
pub mod TurnStates
pub mod Saved
pub mod SavedInside

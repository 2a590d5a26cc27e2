pub mod Hints
pub mod HintsInside
pub mod HintText
pub mod Rounds

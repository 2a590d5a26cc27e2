-- What the reader's tokens and trees are of a script's expression.
pub mod Lines
pub mod Readings
pub mod Texts

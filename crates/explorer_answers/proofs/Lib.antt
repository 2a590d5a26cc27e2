pub mod Prelude
pub mod Failing
pub mod Pieces

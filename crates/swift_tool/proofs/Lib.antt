pub mod Prelude
pub mod Invariants

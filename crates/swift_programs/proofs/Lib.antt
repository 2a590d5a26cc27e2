pub mod Apart
pub mod Wrote

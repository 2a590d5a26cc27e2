pub mod Prelude
pub mod Keeping
pub mod KeptTurns
pub mod Spared
pub mod ReadRows
pub mod AllAreTested

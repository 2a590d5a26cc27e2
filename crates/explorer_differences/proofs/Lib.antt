pub mod Naming
pub mod Passing
pub mod Parting
pub mod Pieces

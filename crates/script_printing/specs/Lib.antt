pub mod Limits
pub mod Pieces
pub mod Printed
pub mod Readable
pub mod Script
pub mod Words

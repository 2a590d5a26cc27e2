pub mod BegunInside
pub mod Declarations
pub mod Wants
pub mod Words

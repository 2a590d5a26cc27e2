-- What a text consists of, and where tokens and refusals lie in it.
pub mod Bytes
pub mod Declarations
pub mod DeclaringInside
pub mod Expressions
pub mod Fronts
pub mod Lexes
pub mod Places
pub mod ReadersInside
pub mod RowsInside
pub mod Statements
pub mod Words

pub mod Bytes
pub mod Keywords
pub mod Lexes
pub mod Lines
pub mod Pieces
pub mod Spans
pub mod Spelling

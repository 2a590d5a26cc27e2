-- The parser's own way: what it reads at the front of the tokens, from left to right. It is proved that this way finds
-- just what the grammar says, so nothing here is to be believed but which fault is met first.
pub mod Steps
pub mod Parts
pub mod Expressions
pub mod Actions
pub mod Statements
pub mod Declarations

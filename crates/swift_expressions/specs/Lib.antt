-- What is put among the instructions of a file.
pub mod Instructions
pub mod Lowered
pub mod States
-- What the spelling of a name stands for.
pub mod Scopes

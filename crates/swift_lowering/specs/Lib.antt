-- Where an assignment goes.
pub mod Assignments
-- What instructions end in.
pub mod EndsInside
-- What statements without a block become.
pub mod Statements
-- Units among the instructions of others.
pub mod Units
-- What a `do` catches.
pub mod Catching
-- What of a block is but a value.
pub mod Alone
-- What closures capture.
pub mod Closures
-- The blocks of groups and bindings.
pub mod Groups
-- Which statements may return.
pub mod Returning
-- What statements with a block become.
pub mod Blocks
-- What whole files become.
pub mod Files

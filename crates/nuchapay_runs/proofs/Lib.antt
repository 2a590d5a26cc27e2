pub mod Prelude
mod Annotated
mod Bound
mod Explaining
mod Holding
mod Joined
mod Meanwhile
mod Noting
mod Past
mod Playing
mod Standing

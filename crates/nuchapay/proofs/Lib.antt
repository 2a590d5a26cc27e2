pub mod Prelude
mod OfRun
mod Chosen

pub mod LogLemmas
pub mod Cancels
pub mod GroupLemmas

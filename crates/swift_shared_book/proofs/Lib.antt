pub mod Prelude
pub mod Shapes
pub mod RuleKept
pub mod Committing
pub mod CallsKeep
pub mod LockCalls
pub mod LockLaws
pub mod LockSteps

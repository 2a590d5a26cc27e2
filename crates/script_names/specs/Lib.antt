pub mod Texts
pub mod Seeds
pub mod Methods
pub mod Directory
pub mod Scope
pub mod ScopeInvariant
pub mod Rules
pub mod Finds

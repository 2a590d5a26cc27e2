pub mod Acting
pub mod Called
pub mod Grown
pub mod Named
pub mod Stepped
pub mod Waited
pub mod Scoped

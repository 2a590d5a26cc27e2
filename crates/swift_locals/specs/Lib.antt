pub mod Bindings
pub mod BindingsInside

pub mod Escapes
pub mod RunJson
pub mod Pages

pub mod Translations
pub mod Programs
pub mod Outline
pub mod Names
pub mod LinesInside

pub mod Lists
pub mod Pages
pub mod Read
pub mod Sizes
pub mod Views

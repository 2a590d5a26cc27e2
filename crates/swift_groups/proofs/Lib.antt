pub mod Prelude
pub mod Lists
pub mod Links
pub mod Views
pub mod Children
pub mod FieldsKept
pub mod Calls
pub mod Results

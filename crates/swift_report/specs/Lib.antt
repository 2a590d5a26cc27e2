pub mod Text
pub mod Part
pub mod ReportJson

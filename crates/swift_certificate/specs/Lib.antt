pub mod Laws
pub mod Reports
pub mod ReplayInside

pub mod Cases
pub mod Lines
pub mod Why

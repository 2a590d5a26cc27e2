pub mod NextTurns
pub mod OpenHistories

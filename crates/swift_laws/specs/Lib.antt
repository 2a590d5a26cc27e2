pub mod Laws
pub mod Inherited
pub mod Accepted
pub mod Ended
pub mod Whole

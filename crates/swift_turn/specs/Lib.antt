pub mod Body
pub mod BodyInvariant
pub mod Laws
pub mod StackInside

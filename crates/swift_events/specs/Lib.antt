pub mod Events
pub mod Lives
pub mod Relations
pub mod Room
pub mod Laws

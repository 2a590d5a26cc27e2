pub mod LevelsInside
pub mod GraphInside
pub mod PlacesInside
pub mod Waits
pub mod WaitsInside
pub mod Laws

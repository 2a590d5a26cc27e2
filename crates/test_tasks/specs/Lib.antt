pub mod StagesInside

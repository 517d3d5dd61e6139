pub mod Laid
pub mod Layers
pub mod Placement
pub mod Slots

pub mod Frames
pub mod Realizes

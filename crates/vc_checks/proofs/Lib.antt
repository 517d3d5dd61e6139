pub mod Keeping
pub mod Knowing
pub mod Leaving
pub mod Origins
pub mod Running
pub mod Stepping
pub mod Tracked
pub mod Walking

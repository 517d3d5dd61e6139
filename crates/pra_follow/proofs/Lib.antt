pub mod Carriages
pub mod CodeOf
pub mod Codes
pub mod Little
pub mod Meant
pub mod Room
pub mod Sides
pub mod Sums

pub mod Turning
pub mod Beside
pub mod Kept
pub mod Orders
pub mod Listings

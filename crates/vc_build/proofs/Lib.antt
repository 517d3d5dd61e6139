pub mod Growth
pub mod Steps
pub mod Open
pub mod Text

pub mod Parts
pub mod Text
pub mod Reading
pub mod ListText

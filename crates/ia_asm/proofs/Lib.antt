pub mod Assembling
pub mod ByteCounts
pub mod ImageFile
pub mod Overwriting

pub mod Parts
pub mod Apart
pub mod Words
pub mod Contents
pub mod Represented
pub mod Lives
pub mod Variables
pub mod Returned

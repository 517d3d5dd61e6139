pub mod Admitting
pub mod Built
pub mod Done
pub mod FromPrices
pub mod GivenLines
pub mod Told
pub mod Totals
pub mod Underway

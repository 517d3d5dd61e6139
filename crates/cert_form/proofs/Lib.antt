pub mod Answered
mod Begun
mod BlocksTaken
mod CellsTaken
pub mod CertsRead
pub mod CodesAnswered
mod CodesHeld
pub mod CodesRead
pub mod Forms
mod Gathered
mod Held
mod Laid
mod ItemsTaken
pub mod LineFeed
pub mod NamesAreText
pub mod PartsFit
pub mod PartsRead
pub mod Plain
pub mod ProcsRead
mod ObjectsTaken
mod RowsTold
mod Spelled
pub mod Texts
mod Tooks
mod Turns
mod WholeTexts

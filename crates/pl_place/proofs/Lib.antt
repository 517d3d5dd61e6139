pub mod MovesArePaid
pub mod PlacedCode
pub mod SampleIsBehind
pub mod SampleIsPlaced

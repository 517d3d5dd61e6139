pub mod Behind
pub mod Machine
pub mod Placed
pub mod Sample
pub mod SampleRoutes
pub mod Valid

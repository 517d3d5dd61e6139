pub mod Lending
pub mod Measuring

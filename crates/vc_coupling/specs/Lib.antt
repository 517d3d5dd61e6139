pub mod Coupled

pub mod Correspondence

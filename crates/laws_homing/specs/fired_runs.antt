pub mod Since
pub mod Waiting

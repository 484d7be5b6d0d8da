pub mod Groups
pub mod Whole
pub mod Clocked

pub mod Still
pub mod Whole
pub mod Own

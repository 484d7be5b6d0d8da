pub mod Closing
pub mod Distinct

pub mod Early
pub mod Sections
pub mod Safe
pub mod SetUp
pub mod Quiet
pub mod Runs
pub mod Resting

pub mod Reading
pub mod Cuts
pub mod Whole
pub mod Scened
mod Runs
pub mod Captured
pub mod Fanned
pub mod Checked
pub mod Bedded
mod Loaded
mod Asked
mod Few

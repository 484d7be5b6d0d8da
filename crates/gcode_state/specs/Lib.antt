pub mod Sound
pub mod Starts
pub mod States

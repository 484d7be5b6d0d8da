pub mod Further
pub mod Heads

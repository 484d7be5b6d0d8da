mod Heads
mod Pairs
pub mod Writing

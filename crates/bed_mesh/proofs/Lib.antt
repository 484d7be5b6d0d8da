pub mod Bounds
pub mod Rows
pub mod Cutting
pub mod Ways
pub mod Head
pub mod Writing
pub mod Filing

pub mod Placing
pub mod Bounds

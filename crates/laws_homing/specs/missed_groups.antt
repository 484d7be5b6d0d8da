pub mod Minds
pub mod Ticks
pub mod Known

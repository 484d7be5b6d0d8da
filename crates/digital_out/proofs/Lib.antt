pub mod Keeping
pub mod Reading
pub mod Timing
pub mod Ordering
pub mod Carrying
pub mod Giving
pub mod Switching
pub mod Leveling

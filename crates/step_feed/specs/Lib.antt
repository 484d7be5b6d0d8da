pub mod Units
pub mod Pacing
pub mod Rings
pub mod Fed
pub mod Streams

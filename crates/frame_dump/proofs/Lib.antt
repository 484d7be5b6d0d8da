pub mod Reading
pub mod Dumping
pub mod Replaying

pub mod Answers
pub mod Planned
pub mod Given
pub mod Lines
pub mod Boards
pub mod Homed
pub mod Rows

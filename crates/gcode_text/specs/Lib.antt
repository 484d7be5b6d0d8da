pub mod Slots
pub mod Blanks
pub mod Commands
pub mod Lines
pub mod Sorts
pub mod Fans

pub mod Turns
pub mod Boards

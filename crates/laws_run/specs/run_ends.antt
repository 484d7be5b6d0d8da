pub mod Ends
pub mod Boards

pub mod Keeping
pub mod Counting
pub mod Ending
pub mod Coming
pub mod Unstopped
pub mod Connecting
pub mod Counted

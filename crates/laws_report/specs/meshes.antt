pub mod Bent
pub mod Joined
pub mod Written
pub mod Borders

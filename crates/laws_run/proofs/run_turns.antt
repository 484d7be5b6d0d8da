pub mod Words
pub mod Starting
pub mod Ending

pub mod Log
pub mod Clocks
pub mod Steps
pub mod Report

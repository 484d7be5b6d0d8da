pub mod Units
pub mod Orders
pub mod Boards
pub mod Pulses
pub mod Links

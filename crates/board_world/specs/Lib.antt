pub mod Orders
pub mod World
pub mod Stands
pub mod Shut
pub mod Apart
pub mod Units

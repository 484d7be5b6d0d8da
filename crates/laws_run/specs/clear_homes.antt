pub mod Expiry
pub mod First
pub mod Closes

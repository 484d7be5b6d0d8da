pub mod Units
pub mod Links

pub mod Near
pub mod Little
pub mod Follow
pub mod Reports
pub mod Cuts

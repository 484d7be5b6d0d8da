pub mod Firing
pub mod Telling
pub mod Ordering
pub mod Made
pub mod Homes
pub mod Exact

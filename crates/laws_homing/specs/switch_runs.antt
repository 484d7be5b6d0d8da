pub mod Reading
pub mod Runs
pub mod Made
pub mod Reports
pub mod Taken

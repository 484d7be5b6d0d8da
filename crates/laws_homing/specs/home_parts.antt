pub mod Answers
pub mod Cuts
pub mod Movers
pub mod Known
pub mod Reports

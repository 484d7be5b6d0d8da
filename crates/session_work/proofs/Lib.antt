pub mod Alone
pub mod Goes
pub mod Each
pub mod Columns
pub mod Motions
pub mod Leads
pub mod Homes
pub mod Reactors

pub mod Counts
pub mod Turns
pub mod Rings
pub mod Feds
pub mod Together
pub mod Wholes
pub mod Sent
pub mod Overs

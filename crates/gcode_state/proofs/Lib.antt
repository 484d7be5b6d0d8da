pub mod Accepted
pub mod EPlaces
pub mod Counted
pub mod ValidMoves
pub mod Homed
pub mod Weights
pub mod Ranging

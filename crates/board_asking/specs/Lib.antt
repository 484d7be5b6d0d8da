pub mod Machine
pub mod Asking
pub mod Clocks
pub mod Connecting
pub mod Drift
pub mod Kept
pub mod Laws
pub mod Turns

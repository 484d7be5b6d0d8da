pub mod Behind
pub mod Pulses
pub mod Points
pub mod Faults
pub mod Verdicts
pub mod Steps

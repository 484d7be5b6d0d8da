pub mod Traces
pub mod Sofar
pub mod Things
pub mod Dumps
pub mod Text
pub mod Replays
pub mod Played

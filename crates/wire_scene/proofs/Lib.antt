pub mod Lasts
pub mod Rising
pub mod Fitting
pub mod ValidScene
pub mod Latest
pub mod Wires
pub mod WireLaws
pub mod PinLevels

pub mod OutputTimes

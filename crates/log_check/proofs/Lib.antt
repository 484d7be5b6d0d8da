pub mod Tests
pub mod Furthers
pub mod Planning
pub mod Pointing
pub mod Sounding
pub mod Checking
pub mod Judged

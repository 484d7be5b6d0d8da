pub mod Reaching
pub mod Lists
pub mod Marks
pub mod Within
pub mod Giving
pub mod Rising

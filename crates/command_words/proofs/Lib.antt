pub mod Leaf
pub mod Top
pub mod Answers

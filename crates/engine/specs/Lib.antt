pub mod Answers
pub mod Turns
pub mod Passes
pub mod Pairs

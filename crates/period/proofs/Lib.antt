pub mod Lengths
pub mod Comparisons

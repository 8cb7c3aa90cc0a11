pub mod Limits
pub mod Fraction

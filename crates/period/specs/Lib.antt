pub mod Refusal
pub mod Periods
pub mod Lengths
pub mod Ordered
pub mod Text

pub mod Order
pub mod Lowest

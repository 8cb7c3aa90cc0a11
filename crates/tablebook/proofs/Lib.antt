pub mod Each
pub mod Within
pub mod Stairs
pub mod Copied
pub mod Readings

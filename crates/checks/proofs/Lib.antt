pub mod Assigned
pub mod Periods
pub mod Once
pub mod Raising
pub mod Settling
pub mod Nth

pub mod Limits
pub mod Model
pub mod Scheduling
pub mod Raises
pub mod Calls
pub mod Laws

pub mod Needs
pub mod Turned
pub mod Calls
pub mod Passing
pub mod Both

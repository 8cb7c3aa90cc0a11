pub mod Limits
pub mod Circuit
pub mod Terminal
pub mod Sound

pub mod Decoded
pub mod Feeds
pub mod Numbers
pub mod Grounded
pub mod Cuts
pub mod Runs
pub mod Lawful

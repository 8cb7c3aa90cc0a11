pub mod Every
pub mod Runs

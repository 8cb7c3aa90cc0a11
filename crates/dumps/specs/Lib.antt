pub mod Ground
pub mod Spelling
pub mod Frame
pub mod Fault
pub mod Verdict
pub mod Reading

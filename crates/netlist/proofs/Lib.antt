pub mod Wired
pub mod Delayed
pub mod Answered
pub mod Marked
pub mod Covering
pub mod Soundness

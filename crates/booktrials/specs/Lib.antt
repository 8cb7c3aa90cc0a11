pub mod Chain
pub mod Links

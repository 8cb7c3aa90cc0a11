pub mod Sheets
pub mod Tables
pub mod Held
pub mod Refusals
pub mod Kept

pub mod Figures
pub mod Terminals
pub mod Domains
pub mod Table
pub mod Growth
pub mod Changes
pub mod Drafted
pub mod Circuits

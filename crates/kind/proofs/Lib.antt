pub mod Counts
pub mod Members
pub mod Places
pub mod Reading

pub mod Fields
pub mod Storage
pub mod Windows

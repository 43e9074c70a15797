pub mod Changes
pub mod Kept
pub mod Ledger
pub mod Room
pub mod Striking
pub mod Surface

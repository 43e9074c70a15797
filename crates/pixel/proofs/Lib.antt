pub mod Borders
pub mod Corners
pub mod Counting
pub mod Held
pub mod Listing
pub mod Places

pub mod Corners
pub mod Links
pub mod Progress
pub mod Shell
pub mod Table

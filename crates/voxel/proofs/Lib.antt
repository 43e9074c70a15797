pub mod Borders
pub mod Holding
pub mod Locals
pub mod Last

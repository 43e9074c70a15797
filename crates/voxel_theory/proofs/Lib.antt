pub mod Laws
pub mod Naming
pub mod Parity
pub mod Places
pub mod Reading
pub mod Sides

pub mod Faces
pub mod Heights
pub mod Places
pub mod Runs

pub mod Faces
pub mod Clip
pub mod Laws
pub mod Masks

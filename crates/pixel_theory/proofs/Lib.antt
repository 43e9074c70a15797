pub mod Faces
pub mod Laws
pub mod Numbering
pub mod Points

pub mod Level
pub mod Crossing
pub mod Face
pub mod Cuts
pub mod Corner
pub mod Corners
pub mod Interpolant
pub mod Vertex

pub mod Holds
pub mod Local
pub mod Reading
pub mod Shapes
pub mod VoxelLaws

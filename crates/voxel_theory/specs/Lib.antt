pub mod Voxel

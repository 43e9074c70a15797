pub mod Heights
pub mod Products
pub mod Weights
pub mod Edges
pub mod Centres
pub mod Joints
pub mod Following
pub mod Reading

pub mod Pixels
pub mod PixelLaws
pub mod Contour
pub mod Surveys

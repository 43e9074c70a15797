pub mod Kind
pub mod Numbers
pub mod Pixel

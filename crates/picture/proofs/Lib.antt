pub mod Depths
pub mod Sizes
pub mod Pixels

pub mod Pixels
pub mod Sizes
pub mod Outcomes

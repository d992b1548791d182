pub mod Runs
pub mod Arrays
pub mod Blocks
pub mod Patterns
pub mod Pixels
pub mod Masks
pub mod Parts
pub mod Fits

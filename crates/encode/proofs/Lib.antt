pub mod Comparing
pub mod PixelStretches
pub mod Starts
pub mod Choosing
pub mod Written
pub mod OrderBytes
pub mod Streams
pub mod Answers

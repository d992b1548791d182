pub mod Heads
pub mod Encode
pub mod Bound
pub mod Compress
pub mod Examples

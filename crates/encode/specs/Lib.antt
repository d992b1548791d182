pub mod Bytes
pub mod Pixels
pub mod Orders
pub mod Stream
pub mod Writing
pub mod Promises

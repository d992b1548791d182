pub mod Text
pub mod Answer
pub mod Case
pub mod Parse
pub mod Reply
pub mod Promises

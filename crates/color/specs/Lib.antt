pub mod Colors
pub mod Look
pub mod SamePicture
pub mod Promises

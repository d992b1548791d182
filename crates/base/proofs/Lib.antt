pub mod Tests
pub mod Differences

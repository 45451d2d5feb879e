pub mod Tests
pub mod Fields
pub mod Marking
pub mod Reading
pub mod Texts

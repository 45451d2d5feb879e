pub mod Marks
pub mod Spellings

pub mod Replay
pub mod Spelling
pub mod Texts

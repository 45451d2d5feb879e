pub mod Tally
pub mod Replies
pub mod Logs
pub mod Laws
pub mod Texts

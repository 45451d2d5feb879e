pub mod Following
pub mod Giving
pub mod Turning

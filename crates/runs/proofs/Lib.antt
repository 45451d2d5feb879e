pub mod Busy
pub mod Counts
pub mod Lists
pub mod Spending

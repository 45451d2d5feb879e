pub mod Layouts
pub mod Disks
pub mod Filling
pub mod Records
pub mod Tables
pub mod Fetchings
pub mod Homes

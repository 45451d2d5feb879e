pub mod Sums
pub mod Maps
pub mod Bytes

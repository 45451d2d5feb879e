pub mod Sums
pub mod Maps

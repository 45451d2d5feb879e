pub mod Steps
pub mod Spreads
pub mod Tables

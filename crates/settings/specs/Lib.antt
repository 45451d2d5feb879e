pub mod Contents
pub mod Filling

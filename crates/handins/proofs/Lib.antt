pub mod Truth
pub mod Headers
pub mod Endings

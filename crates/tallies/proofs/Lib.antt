pub mod Moves
pub mod Flying
pub mod Keeping
pub mod Appending
pub mod Counting
pub mod Landing
pub mod Residing
pub mod Lawfulness

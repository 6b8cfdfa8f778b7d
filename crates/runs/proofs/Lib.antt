-- Bytes packed into one number, what is reckoned of all of them at once, and the first that does not pass.
pub mod Packed
pub mod Lanes
pub mod Firsts
pub mod Pairs
pub mod Edges
pub mod Copies

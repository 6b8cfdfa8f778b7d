-- Bytes that are passed over in blocks, those of characters of up to two bytes or three, and one unit.
pub mod Passing
pub mod Pairs
pub mod Triples
pub mod Units

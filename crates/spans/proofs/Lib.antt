-- Sums over bytes; what a byte adds to them, and a block; and that a place is made of them.
pub mod Sums
pub mod Surplus
pub mod Blocks
pub mod Lines

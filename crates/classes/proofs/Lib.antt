-- What the proofs share.
pub mod Strides
pub mod Sums
pub mod Lanes
pub mod Rows
pub mod Wide

-- Sets of 64 offsets as the bits of a number, and the edges between runs of bytes.
pub mod Sets
pub mod Edges
pub mod Turns

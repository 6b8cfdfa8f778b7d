-- Laws of exclusive or, and sets of offsets.
pub mod Xors
pub mod Spans
pub mod Rows
pub mod Sets

-- Classes of bytes by their edges, and eight bytes as one number.
pub mod Classes
pub mod Lanes

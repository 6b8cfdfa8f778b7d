-- The first bit of a set, what the bytes tell, and the token from edge to edge.
pub mod Firsts
pub mod Drops
pub mod Tells
pub mod Tokens
pub mod Walks

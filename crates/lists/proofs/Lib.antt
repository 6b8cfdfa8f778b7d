-- Which tokens, where they are stored, what is answered; and one token after the other.
pub mod Choosing
pub mod Packing
pub mod Storing
pub mod Picking

-- The table's slots; a tag that is not seen again; words of bits.
pub mod Slots
pub mod Again
pub mod Bits

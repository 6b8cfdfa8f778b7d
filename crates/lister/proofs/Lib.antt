-- The list's room, and a text that is read in parts.
pub mod Fits
pub mod Reading

-- A token's bytes in the text; what it keeps, by its kind; bytes hidden in place; the copy as it grows.
pub mod Spans
pub mod Kept
pub mod Hiding
pub mod Copying

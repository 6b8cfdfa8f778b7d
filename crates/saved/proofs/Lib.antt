-- Bytes stored one after another, and what is answered.
pub mod Storing
pub mod Answers

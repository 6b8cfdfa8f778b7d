-- What the proofs of the readers share. A function's own proof is under its module and name.
-- Answers, matches on a byte, and what a first byte tells.
pub mod Ends
pub mod Matches
pub mod FirstByteKinds
pub mod Decided
pub mod Letters
pub mod FirstBytes
-- Rules 1 and 3: runs of a class, and the classes by the code's tests.
pub mod Runs
pub mod Classes
pub mod Skips
pub mod Edges
-- Rules 1 and 4: what is closed or not.
pub mod Comments
pub mod Bodies
-- Rule 5.
pub mod HereDocs
-- Rules 6 and 7.
pub mod Numbers
pub mod FastNumbers

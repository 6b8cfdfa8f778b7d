-- What comes of a plan, and that records and packed bytes hold the same list; reading by steps; records that are stored from the front on.
pub mod Outcomes
pub mod Same
pub mod Steps
pub mod Stored

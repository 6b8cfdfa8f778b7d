-- A statement as it is read: a delimiter ends it, any other token goes on with it.
pub mod Walks

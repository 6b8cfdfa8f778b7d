-- What the contracts say beside the rules: answers in the code's structs, and what a reader's helpers find.
pub mod Ends
pub mod Steps
pub mod Words
pub mod FirstBytes
pub mod Quotes
pub mod HereDocs

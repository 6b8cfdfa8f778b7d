-- What the contracts say beside the rules.
pub mod First
pub mod Walks

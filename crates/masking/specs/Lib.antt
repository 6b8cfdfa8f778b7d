-- What the contracts say beside the rules.
pub mod Spans
pub mod Walks

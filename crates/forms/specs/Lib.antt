-- What the contracts say beside the rules: reading with a reader, and listings in records.
pub mod Reading
pub mod Records

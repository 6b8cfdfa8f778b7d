-- What the contracts say beside the rules: a table of tags, and which `$` are marked.
pub mod Slots
pub mod Marks

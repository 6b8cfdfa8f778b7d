-- What the contracts say beside the rules: what strides and checkpoints sum to.
pub mod Strides
pub mod Rows

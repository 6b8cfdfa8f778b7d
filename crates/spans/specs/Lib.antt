-- What the contracts say beside the rules.
pub mod Parts
pub mod Placed
pub mod Sums

pub mod Choices
pub mod Plans
pub mod Picks
pub mod Walks

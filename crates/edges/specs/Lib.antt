-- What a byte tells at the start of a token and after it, and the edges that are left of a block.
pub mod Leads
pub mod Left
pub mod Walks

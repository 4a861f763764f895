pub mod Turns
pub mod Indexing

pub mod Memory
pub mod Sequence

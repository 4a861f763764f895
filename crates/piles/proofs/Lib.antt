pub mod Blanks
pub mod Sequences

pub mod Freeing
pub mod Writing
pub mod Adding
pub mod Zeroing
pub mod Holding
pub mod Starting

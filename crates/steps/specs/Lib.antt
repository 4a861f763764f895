pub mod Asks
pub mod Asked

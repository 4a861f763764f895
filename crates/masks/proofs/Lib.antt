pub mod Bits
pub mod Codes
pub mod Puts
pub mod Listing
pub mod Masking
pub mod Steps
pub mod Making
pub mod Writings

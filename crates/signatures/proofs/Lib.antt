pub mod Remainders
pub mod Layering
pub mod Calling
pub mod Clearing

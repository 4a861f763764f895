pub mod Puts
pub mod Rowing
pub mod Slips
pub mod Writings
pub mod Steps
pub mod Making

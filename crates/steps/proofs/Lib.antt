pub mod Verdicts
pub mod Carrying
pub mod Resolved
pub mod Splits
pub mod Defines

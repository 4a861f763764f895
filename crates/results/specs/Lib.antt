pub mod Turned
pub mod Spread
pub mod Parents
pub mod Definition
pub mod Counting
pub mod Placing
pub mod Splitting
pub mod Resolving

pub mod Doing
pub mod Clausing
pub mod Softly
pub mod Shows
pub mod Stepping

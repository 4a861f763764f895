pub mod Shown
pub mod Framing

pub mod Signing
pub mod Layers
pub mod Laws

pub mod Digits
pub mod Masks
pub mod Finding
pub mod Soundness
pub mod Made
pub mod Shelves
pub mod Laws

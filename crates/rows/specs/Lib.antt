pub mod Rows
pub mod Finding
pub mod Soundness
pub mod Made
pub mod Shelves
pub mod Laws

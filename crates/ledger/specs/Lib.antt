pub mod Meaning
pub mod Dues
pub mod Bills
pub mod Given

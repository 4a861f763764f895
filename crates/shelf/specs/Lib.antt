pub mod Literals
pub mod View
pub mod Room
pub mod Answers
pub mod Telling
pub mod Printed
pub mod Memory
pub mod Holding

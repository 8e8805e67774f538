-- What follows the code that walks along a path (`walk`, `entries`).
pub mod Holding
pub mod Steps

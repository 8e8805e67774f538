-- The definitions that the promises of `volcano` are written with.
pub mod Rules
pub mod Calls

-- The definitions that the promises of `reduction` are written with.
pub mod Reduction
pub mod Alike
pub mod Calls
pub mod Private

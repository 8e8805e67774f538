-- The definitions that the promises of `reader` are written with.
pub mod Lists
pub mod Bytes
pub mod Family
pub mod Nesting
pub mod Causes
pub mod WellFormed
pub mod Refusals
pub mod Calls
pub mod Private

-- The definitions that the promises of `hybrid` are written with.
pub mod Hybrid
pub mod Calls
pub mod AcceptedCalls
pub mod Private

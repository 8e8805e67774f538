-- The definitions that the promise of `leaves` is written with.
pub mod Calls
pub mod AcceptedCalls
pub mod Private

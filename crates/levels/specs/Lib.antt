-- The definitions that the promises of `levels` are written with.
pub mod Levels
pub mod Causes
pub mod Calls
pub mod AcceptedCalls
pub mod Private

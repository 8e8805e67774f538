-- The definitions that the promises of `pvalues` are written with.
pub mod FromP
pub mod Calls
pub mod AcceptedCalls
pub mod Private

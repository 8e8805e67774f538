-- The definitions that the promises of `bounds` are written with.
pub mod Ranges
pub mod Bound
pub mod Selections
pub mod SelectionLists
pub mod Tally
pub mod Curves
pub mod Holding
pub mod Calls
pub mod AcceptedCalls
pub mod Paths
pub mod Private

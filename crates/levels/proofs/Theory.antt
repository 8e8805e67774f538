-- The mathematics of families by level and in file order. It speaks of definitions alone; no law here follows a function's code.
pub mod Rearranged
pub mod Distinct
pub mod FileOrder
pub mod RoundTrips

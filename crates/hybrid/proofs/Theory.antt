-- The mathematics of the Simes bound. It speaks of definitions alone; no law here follows a function's code.
pub mod Least
pub mod SimesLaws
pub mod SimesLargest
pub mod Slots

-- The mathematics of the z from p-values. It speaks of definitions alone; no law here follows a function's code.
pub mod Passing
pub mod Largest
pub mod Counted
pub mod ZLaws
pub mod LoweredIsZ
pub mod ZBetween

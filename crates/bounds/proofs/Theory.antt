-- The mathematics of formula (3), of the taken regions and of the curve. It speaks of definitions alone; no law here follows a function's code.
pub mod Laminar
pub mod Totals
pub mod Greedy
pub mod Formula
pub mod Paths
pub mod Taken
pub mod Family
pub mod EmptyRegions
pub mod Theorems
pub mod Marks
pub mod CurveTheorem
pub mod CutTheorem

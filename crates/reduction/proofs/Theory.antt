-- The mathematics of demand 3, from kept stretches to one file. It speaks of definitions alone; no law here follows a function's code.
-- the kept stretches, over any list of stretches
pub mod Grown
pub mod Kept
pub mod Suffice
pub mod Determined
-- the steps of the reduction
pub mod Live
pub mod Stretches
pub mod SameSets
pub mod Room
pub mod Runs
pub mod Reduced
pub mod RunOrStretch
-- the written family
pub mod Leaves
pub mod ReadBack
pub mod Forest
pub mod LeafNumbers
pub mod Regions
pub mod WrittenFamily
-- it is no larger than the family, and well formed
pub mod Smallest
pub mod Depth
pub mod Cuts
pub mod FewerLeaves
pub mod Accepted
-- the one form
pub mod Curves
pub mod OneForm
pub mod OneFile

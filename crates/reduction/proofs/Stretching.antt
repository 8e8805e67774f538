-- What follows the code that finds the live peptides and the stretches (`stretch`).
pub mod ListFronts
pub mod OpenRegions
pub mod DeadPeptides
pub mod NearestLive

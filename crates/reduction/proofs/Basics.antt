-- Lists, the grid of all pairs, first and last, counts and choices: what the other laws are written with.
pub mod Unless
pub mod Grid
pub mod Plain
pub mod FirstLast
pub mod Counts
pub mod Selected
pub mod Choices
pub mod Listing
pub mod Pigeonhole

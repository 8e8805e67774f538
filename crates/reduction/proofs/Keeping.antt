-- What follows the code that finds the kept stretches and lists the reduced ranges (`keep`).
pub mod HandedOn
pub mod Known
pub mod StretchPlaces
pub mod Weighing
pub mod Marking
pub mod Bounding
pub mod Gathering

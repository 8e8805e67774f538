-- What the loops that find the z of all regions keep.
pub mod Painting
pub mod Climbs
pub mod Regions

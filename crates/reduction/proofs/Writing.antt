-- What follows the code that writes the reduced file (`write`).
pub mod LeafEnds
pub mod WholeFile

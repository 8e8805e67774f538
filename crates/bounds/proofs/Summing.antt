-- What follows the code that adds up a row of regions and writes the taken bytes (`cursor`, `rows`, `taking`).
pub mod RowTotals
pub mod RowWalk
pub mod TakenBytes

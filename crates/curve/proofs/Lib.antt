-- The laws that the proofs of the curve program cite.
pub mod Pieces
pub mod Decoding
pub mod Printing
pub mod ProgramTheorem

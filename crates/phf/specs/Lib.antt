-- The definitions that the promises of the C interface, and the theorem of demand 1, are written with.
pub mod Fields
pub mod Calls
pub mod Obeys

-- The laws and theorems of `reduction`. Demand 3 is one record, in `DemandThree`; what it and the others say of empty leaves is another, in `EmptyLeaves`; E1 to E10 are one theorem, in `Examples`.
pub mod Basics
pub mod Theory
pub mod Calls
pub mod Stretching
pub mod Keeping
pub mod Writing
pub mod DemandThree
pub mod EmptyLeaves
pub mod Examples

-- The laws and theorems of `bounds`. Demand 2 is one record, in `DemandTwo`, and what is said of lists of selections another, in `BoundList`.
pub mod Basics
pub mod Theory
pub mod Calls
pub mod Summing
pub mod Walking
pub mod DemandTwo
pub mod BoundList
pub mod Examples
pub mod ListExamples

-- What the calls answer and write, from what they find.
pub mod LiveSelection
pub mod ReduceCalls

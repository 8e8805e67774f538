-- The laws of `pvalues`. What `bounds_from_p` writes is one record, in `BoundsFromP`.
pub mod Theory
pub mod OrderLaws
pub mod Finding
pub mod NewFile
pub mod Judging
pub mod BoundsFromP
pub mod Examples

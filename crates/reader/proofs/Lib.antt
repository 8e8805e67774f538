-- The laws that the proofs of `reader` and the crates above it cite.
pub mod Bools
pub mod Below
pub mod Lists
pub mod Members
pub mod Parsed
pub mod Judged
pub mod Walk
pub mod First
pub mod Refusals
pub mod Climbing
pub mod Accepting
pub mod ParentLaws
pub mod Files
pub mod NumberRows
pub mod OtherBounds
pub mod Examples

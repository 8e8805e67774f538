-- The laws that the proofs of `leaves` cite, and those that readers do.
pub mod Walk
pub mod LeafLaws
pub mod Examples

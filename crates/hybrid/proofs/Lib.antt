-- The laws of `hybrid`. What the call writes is one record, in `HybridCurve`.
pub mod Theory
pub mod SlotLaws
pub mod Calls
pub mod HybridCurve
pub mod Examples

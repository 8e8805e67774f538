-- The laws of the C interface, and the theorem of demand 1.
pub mod FieldLaws
pub mod Obeying
pub mod LibraryAnswers
pub mod DemandOne

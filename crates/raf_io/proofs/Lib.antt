-- Lemmas.
pub mod Splices

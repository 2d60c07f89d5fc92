-- Lemmas of this crate.
pub mod Parts

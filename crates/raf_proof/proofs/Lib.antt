-- Lemmas.
pub mod Gathered
pub mod Handles
pub mod Proved

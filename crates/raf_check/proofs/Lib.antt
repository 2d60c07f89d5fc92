-- Lemmas.
pub mod Accepted
pub mod Checked
pub mod CheckedBytes
pub mod SameCalls
pub mod Walk
pub mod Written

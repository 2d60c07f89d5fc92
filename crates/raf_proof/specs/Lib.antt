pub mod Proving

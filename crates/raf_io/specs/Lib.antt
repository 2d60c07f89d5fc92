-- The definitions that the contracts cite.
pub mod Storage
pub mod Source
pub mod Memory
pub mod Kinds

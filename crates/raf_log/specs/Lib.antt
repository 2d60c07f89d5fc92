-- The definitions that the contracts cite.
pub mod Entries
pub mod Walk
pub mod Kinds
pub mod Log
pub mod Call
pub mod Parts
pub mod Opening
pub mod Sweep
pub mod Session
pub mod Ran
pub mod Complete

-- The definitions that the contracts cite.
pub mod Cipher
pub mod Version
pub mod Header
pub mod File
pub mod Record
pub mod Numbers
pub mod Derived
pub mod Laws

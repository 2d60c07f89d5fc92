-- The lemmas on the definitions.
pub mod AreBytes
pub mod BitPlaces
pub mod Blocks
pub mod ByteLists
pub mod Bytes
pub mod Circuits
pub mod Deciphered
pub mod ExpandedKeys
pub mod Inverses
pub mod Linear
pub mod MulLinear
pub mod Products
pub mod Rows
pub mod Tables
pub mod Unmixed
pub mod Values
pub mod Vectors

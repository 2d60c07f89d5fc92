-- The definitions of AES.
pub mod Bytes
pub mod Cipher
pub mod Columns
pub mod Field
pub mod Gates
pub mod KeySchedule
pub mod Planes
pub mod Rounds
pub mod Words

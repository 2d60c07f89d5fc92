-- Lemmas.
pub mod Versions
pub mod Ciphers
pub mod Headers
pub mod SealedHeaders
pub mod Opened
pub mod Records
pub mod FileLaws
pub mod DerivedKeys
pub mod Layouts

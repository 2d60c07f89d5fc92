-- The vectors.
pub mod IsSealed128LZeros
pub mod IsSealed128L
pub mod IsSealed128X2
pub mod IsSealed256
pub mod IsSealed256X4

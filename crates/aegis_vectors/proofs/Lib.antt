pub mod Boxed
pub mod Computed128LZeros
pub mod Computed128L
pub mod Computed128X2
pub mod Computed256
pub mod Computed256X4

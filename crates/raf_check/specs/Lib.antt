pub mod Binding
pub mod Claim
pub mod Siblings
pub mod Written

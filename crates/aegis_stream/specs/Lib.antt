pub mod Grammar
pub mod Spell
pub mod Unspell
pub mod Sealing
pub mod Heads
pub mod Opening
pub mod Progress
pub mod Laws

-- Worked sessions.
pub mod Plays

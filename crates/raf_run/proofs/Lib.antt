-- Lemmas of the program.
pub mod PutLemmas
pub mod RunningLemmas
pub mod LoggingLemmas
pub mod AnswerLemmas
pub mod OneText
pub mod Completeness
pub mod ShortRandom
pub mod PlainFiles
pub mod Pieces
pub mod SamePieces
pub mod Openings
pub mod Refusals
pub mod Verdicts
pub mod OneConversion
pub mod DemoLemmas

-- Lemmas of texts and their lines.
pub mod PartsLemmas
pub mod NumberLemmas
pub mod ItemLemmas
pub mod ReadingLemmas
pub mod SpellingLemmas
pub mod LogLemmas
pub mod PlaceLemmas
pub mod WrongLemmas
pub mod ContentLemmas
pub mod ConversionLemmas
pub mod LawLemmas

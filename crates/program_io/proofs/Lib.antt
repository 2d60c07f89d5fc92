-- Lemmas of sources and sinks.
pub mod StreamLemmas

pub mod BodyLemmas
pub mod MemoryLemmas
pub mod StepsLemmas

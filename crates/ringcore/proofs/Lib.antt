pub mod WorldLemmas
pub mod MemoryLemmas
pub mod MachineLemmas

pub mod DumpLemmas
pub mod ShownLemmas
pub mod SizeLemmas
pub mod StreamLemmas
pub mod ViewLemmas
pub mod WaitingLemmas
pub mod HintLemmas

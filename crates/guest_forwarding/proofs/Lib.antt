pub mod SendingLemmas
pub mod OnePlace
pub mod CarryingLemmas
pub mod ConsumedLemmas
pub mod LawLemmas

pub mod HintLemmas

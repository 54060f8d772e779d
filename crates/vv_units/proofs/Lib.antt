pub mod IdentifierLemmas
pub mod PairLemmas

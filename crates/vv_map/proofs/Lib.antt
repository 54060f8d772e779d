pub mod StoreLemmas
pub mod MapLemmas
pub mod GrowLemmas
pub mod StoreLaws

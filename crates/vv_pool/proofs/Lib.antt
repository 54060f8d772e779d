mod BitLemmas
pub mod PoolLemmas
pub mod PoolLaws

pub mod Numbers
pub mod ByteLemmas
pub mod FieldLemmas

pub mod Senses
pub mod Units
pub mod Actions
pub mod Answers
pub mod Commands
pub mod Decided
pub mod Attentions

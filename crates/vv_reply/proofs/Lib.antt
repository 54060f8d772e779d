pub mod FieldNames
pub mod RunLemmas
pub mod Joining
pub mod RisingNames

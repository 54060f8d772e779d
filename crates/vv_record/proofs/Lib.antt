pub mod Items
pub mod Passing
pub mod Lengths
pub mod Stands
pub mod Spells
pub mod FormLaws
pub mod RecordLaws

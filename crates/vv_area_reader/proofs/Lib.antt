pub mod Local
pub mod LocalForms
pub mod LocalRests
pub mod StepLaws
pub mod Short
pub mod ShortSteps
pub mod Going
pub mod Fed

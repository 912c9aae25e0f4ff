pub mod TableLaws
pub mod ContractLaws
pub mod BuilderLaws
pub mod StepLaws
pub mod Promises

pub mod FormulaLaws
pub mod ClaimLaws

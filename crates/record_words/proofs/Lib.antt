pub mod WordsLaws
pub mod CallLaws
pub mod ClaimLaws

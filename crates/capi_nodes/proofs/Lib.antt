pub mod CallLaws
pub mod AskedLaws
pub mod ClaimLaws

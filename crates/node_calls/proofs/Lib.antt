pub mod NodeLaws

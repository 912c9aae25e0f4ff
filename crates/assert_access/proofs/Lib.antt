pub mod AssertLaws

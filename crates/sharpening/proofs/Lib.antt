pub mod CallLaws
pub mod NumberLaws
pub mod ReplacedLaws
pub mod CaseLaws
pub mod ExampleLaws

-- 01, rows 6 and 7, of `meets`: whether some assignment makes nodes false together, or true together.
unfoldable pub use Rattle.meets.specs.Meet.{judge_of, meets_by, meets_up_to, meets, neither, together}
pub use Rattle.meets.specs.Meet.{SomeNeither, SomeTogether, Decides}

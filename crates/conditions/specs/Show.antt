-- 01, 'Case file', of `show`: a condition's text.
unfoldable pub use Rattle.show.specs.Show.{show}
pub use Rattle.show.specs.Show.{text_of, Alike}

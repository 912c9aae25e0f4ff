-- 01, 'Conditions', of `operations`: Any, that some setting of the index variables makes a node true.
pub use Rattle.operations.specs.Any.{Any}

-- 01, 'Conditions', of `operations`: Ite, and Not, And, Or by it.
pub use Rattle.operations.specs.Ite.{Ite, Not, And, Or}

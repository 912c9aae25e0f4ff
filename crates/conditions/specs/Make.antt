-- 01, 'Conditions', of `operations`: the node of a variable, by Make.
pub use Rattle.operations.specs.Make.{Make, Variable}

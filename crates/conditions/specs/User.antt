-- 01, row 5, of `operations`: whether an argument may name a node.
pub use Rattle.operations.specs.User.{is_user}

-- An assignment under which a node holds, of `diagrams`, found by walking down.
unfoldable pub use Rattle.diagrams.specs.Witness.{is_false, path, HoldsThere}
pub use Rattle.diagrams.specs.Witness.{witness_of}

-- What a node means, of `diagrams`: the tree that it unfolds to, and the tree's value under an assignment.
pub use Rattle.diagrams.specs.Value.{Tree, leaf, branch}
unfoldable pub use Rattle.diagrams.specs.Value.{eval, grow, tree_of, value}

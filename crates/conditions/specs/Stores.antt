-- What the crates above say of a store, which never look into its words: 01's 'Conditions' and 'Turned down', of `nodes`.
-- standard form, as the test that row 2 makes and as the facts that it finds; the capacity; a store with the two terminals written
pub use Rattle.nodes.specs.Standard.{is_standard, Standard}
pub use Rattle.nodes.specs.Words.{capacity_of, with_terminals}
-- words and a count in standard form as one value, and that row 2's test gives it
pub use Rattle.nodes.specs.declared.diagrams.Diagrams.{Diagrams}
pub use Rattle.nodes.specs.Diagrams.{Reads}
-- how a store grows: the older nodes are the same, and no word past the new count changes
pub use Rattle.nodes.specs.Extends.{Agree, Extends}
-- "all node words from the count to capacity are 0"
pub use Rattle.nodes.specs.Clear.{clear_of}

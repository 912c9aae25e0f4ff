-- Nodes that stay nodes, and a step after a look, for those who call an access.
pub use Rattle.addresses.proofs.LoopLaws.{more-nodes}
pub use Rattle.merging.proofs.StepLaws.{did_word, word_did}

-- What a Fresh promises: its number's answer, and what it leaves.
pub use Rattle.model.specs.Chain.{numbered, freshed}

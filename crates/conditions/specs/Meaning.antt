-- The terms in which the laws of building speak, of `operations`: what a node stands for, and what a step keeps.
pub use Rattle.operations.specs.Meaning.{Meaning, From, Stands, Builds, Within, longer, lengthened, Alongside, Fills}

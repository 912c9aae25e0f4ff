-- Programs that build nodes, of `operations`: what each leaves of the node words and of the store, and its answer.
pub use Rattle.operations.specs.declared.Store.{Store}
pub use Rattle.operations.specs.Build.{Outcome, Build, pure, next, ◌>>=◌, for_each}

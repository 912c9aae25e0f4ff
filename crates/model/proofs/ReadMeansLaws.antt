-- What a read builds means, near one assignment: what `Published` says of the answer there.
use mathlib.Core.Path.{◌≡◌}
use mathlib.Core.Bool.{Bool, ◌&&◌}
use mathlib.Core.List.{List}
use Prim.Native.Nat.{ℕ, ◌*◌, ◌≤◌}
use lib.ListN.{length, get_or}
use Rattle.conditions.specs.Stores.{Standard}
use Rattle.conditions.specs.Build.{Store}
use Rattle.conditions.specs.Meaning.{Builds}
use Rattle.conditions.proofs.Promises.{next-builds, builds_weaker}
use Rattle.semantics.specs.Pairs.{Pair, at}
use Rattle.model.specs.Record.{Record}
use Rattle.model.specs.Access.{hold_half, Read}
use Rattle.semantics.specs.Published.{Entry, look, answer}
use Rattle.model.proofs.MeansLaws.{Means, up, and-means}
use Rattle.model.proofs.AccessLaws.{Halves, EntriesMean, up_halves, each_half, Word, look-means, hold-means}

module _ {σ : ℕ → Bool} (r : Record) (l : List ℕ) (small : r.sizes.n ≤ 8) where
  pub read-means : (es : List Entry) (eh el : ℕ) (held a : List ℕ) (e : Pair) (g : ℕ → Pair) (qs : List Pair) → length qs ≡ r.sizes.n → (w : List ℕ) (s : Store) → Standard w s.count → EntriesMean σ r es w s l
      → Means σ 8 (λ τ. e.h) w s eh → Means σ 8 (λ τ. e.l) w s el → Halves σ 8 (2 * r.sizes.w) (λ τ. g) w s held → Halves σ 8 (2 * r.sizes.n) (λ τ. at qs) w s a
      → Builds w s (Word σ 8 (2 * r.sizes.w) (λ τ. answer r.sizes es g e qs)) (Read r l held eh el a w s)
  unfolding Read
  read-means es eh el held a e g qs len w s S E H L G A =
      let X1 = look-means r l small es a qs len w s S E A in
      let X2 = and-means X1.standard (up S X1 H) (up S X1 L) in
      let X3 = each_half (λ w s. Means σ 8 (λ τ. e.h && e.l) w s _ × Means σ 8 (λ τ. e.h) w s eh × Halves σ 8 (2 * r.sizes.w) (λ τ. g) w s held) (λ A w s P x S X M. (up S X M.0, up S X M.1, up_halves S X M.2))
      (λ k. hold_half _ eh (get_or held k 0)) (2 * r.sizes.w) 8 8 (λ τ. look r.sizes.n es qs) (λ τ. answer r.sizes es g e qs)
      (λ j x w s h S I R. hold-means r l small e (look r.sizes.n es qs) g eh _ j x held w s h S I.0 I.1 I.2 R) _ _ _ X2.standard
      (X2.post, up X1.standard X2 (up S X1 H), up_halves X1.standard X2 (up_halves S X1 G)) X1.post.size (up_halves X1.standard X2 X1.post.halves) in
      next-builds X1 _ (next-builds X2 _ (builds_weaker X3 (λ Q. record { size = Q.0; halves = Q.1 })))

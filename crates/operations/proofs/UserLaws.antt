-- Nodes on no index variable, and the node of what always holds.
use Rattle.std.proofs.Common.{◌≡◌, sym, ◌∙◌, Bool, true, false, List, ℕ, ◌<◌, ◌≤◌, lt-ltb, le-leb, ltb-true, leb-true}
use Rattle.nodes.specs.Words.{var_at}
use Rattle.nodes.specs.Standard.{Standard}
use Rattle.nodes.proofs.BoolLaws.{cond_both}
use Rattle.operations.specs.declared.Store.{Store}
use Rattle.diagrams.specs.Value.{value}
use Rattle.operations.specs.Meaning.{Meaning, From, Stands}
use Rattle.operations.specs.User.{is_user}
use Rattle.diagrams.proofs.CanonLaws.{value-from}
use Rattle.operations.proofs.BuildLaws.{stands-value}

-- what row 5 finds
pub user_is : (w : List ℕ) (c n : ℕ) → is_user w c n ≡ true → (n < c) × From 8 w n
unfolding is_user
user_is w c n e = let p = cond_both _ _ e in (ltb-true n c p.0, leb-true 8 (var_at w n) p.1)

pub is_user_lem : (w : List ℕ) (c n : ℕ) → n < c → From 8 w n → is_user w c n ≡ true
unfolding is_user
is_user_lem w c n a b = rw (lt-ltb n c a, le-leb 8 (var_at w n) b)

-- a node that an argument names stands for its value
pub user_stands : {w : List ℕ} {s : Store} {n : ℕ} → is_user w s.count n ≡ true → Stands 8 (λ φ. value w φ n) w s n
user_stands {w} {s} {n} e = let p = user_is w s.count n e in stands-value w s 8 n p.0 p.1

-- and a node that stands on no index variable is one that an argument may name
pub stands_user : {w : List ℕ} {s : Store} {n : ℕ} {m : Meaning} → Stands 8 m w s n → is_user w s.count n ≡ true
stands_user {w} {s} {n} N = is_user_lem w s.count n N.below N.from

module _ {w : List ℕ} {s : Store} {u n : ℕ} {m : Meaning} (g : Standard w s.count) (N : Stands u m w s n) (free : s.full ≡ false) where
  -- what a node on variables from u up stands for turns on no variable below
  pub stands_turns : (φ ψ : ℕ → Bool) → ((v : ℕ) → u ≤ v → φ v ≡ ψ v) → m φ ≡ m ψ
  stands_turns φ ψ e = sym (N.is free φ) ∙ value-from g n u N.below N.from φ ψ e ∙ N.is free ψ

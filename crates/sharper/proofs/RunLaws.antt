-- One access and its sharper one, over the published run.
use mathlib.Core.Path.{sym, subst}
use mathlib.Core.Bool.{Bool, true, false, cond}
use mathlib.Core.List.{List, [], ◌∷◌, ◌++◌}
use Prim.Native.Nat.{ℕ, ◌<◌}
use lib.Dec.{T, eqb}
use Rattle.semantics.specs.declared.Sizes.{Sizes}
use Rattle.semantics.specs.Sizes.{cell_bits, data_bits}
use Rattle.semantics.specs.Pairs.{Pair, X, admit}
use Rattle.semantics.specs.Published.{Entry, entry, cell, answer, check_holds, control}
use Rattle.semantics.specs.Array.{Event, writes, reads, asserts, checks, nothing}
use Rattle.semantics.specs.Held.{Held, holds_nothing, Accepted}
use Rattle.semantics.proofs.PairLaws.{and_left, and_right, and_both, scan_snoc}
use Rattle.sharper.specs.Sharper.{Sharper, alike, AllSharper, SharperAccess, write, read, assert, check}
use Rattle.sharper.specs.Narrower.{Narrower, NarrowerCells, NarrowerHeld, AccessNarrower}
use Rattle.sharper.proofs.PublishedLaws.{entry_narrower, answer_narrower, check_narrower}

-- a sharper entry after sharper ones
entered_narrower : (w : ℕ) (es fs : List Entry) → NarrowerCells w es fs → (c c' : Pair) (a a' d d' : List Pair) → Sharper c c' → AllSharper a a' → AllSharper d d'
    → NarrowerCells w (es ++ (entry c a d ∷ [])) (fs ++ (entry c' a' d' ∷ []))
entered_narrower w es fs f c c' a a' d d' fc fa fd x i h b t =
    subst (λ (p : Pair). T (admit p b)) (sym (scan_snoc es (entry c a d) x i X))
    (entry_narrower c c' a a' d d' fc fa fd x i (cell es x i) (cell fs x i) (f x i h) b
    (subst (λ (p : Pair). T (admit p b)) (scan_snoc fs (entry c' a' d') x i X) t))

module _ (z : Sizes) (s t : Held) (H : NarrowerHeld z s t) where
  -- a port after a read by port p
  port_narrower : (p q : ℕ) (v v' : ℕ → Pair) → ((i : ℕ) → i < data_bits z → Narrower (v i) (v' i)) → (i : ℕ) → i < data_bits z → Narrower (cond (eqb q p) v (s.ports q) i) (cond (eqb q p) v' (t.ports q) i)
  port_narrower p q v v' f i h = go (eqb q p)
    where
      go : (k : Bool) → Narrower (cond k v (s.ports q) i) (cond k v' (t.ports q) i)
      go true = f i h
      go false = H.ports q i h

  pub access_narrower : (e f : Event) → SharperAccess e f → Accepted z e → Accepted z f → AccessNarrower z s t e f
  access_narrower (writes c a d) (writes c' a' d') (write fc fa fd) q q' =
      record {
        after = record { cells = entered_narrower (cell_bits z) s.entries t.entries H.cells c c' a a' d d' fc fa fd; ports = H.ports; condition = H.condition };
        bits = λ i h b y. y;
      }
  access_narrower (reads p e a) (reads p' e' a') (read fe fa) q q' =
      let A = answer_narrower z s.entries t.entries H.cells (s.ports p) (t.ports p) (H.ports p) e e' a a' fe fa q.1.1 in
      record {
        after = record { cells = H.cells; ports = λ r i h. port_narrower p r (answer z s.entries (s.ports p) e a) (answer z t.entries (t.ports p) e' a') A i h; condition = H.condition };
        bits = λ i h b y. A i h b y;
      }
  access_narrower (asserts b a d) (asserts b' a' d') (assert fa fd) q q' =
      record {
        after = record { cells = entered_narrower (cell_bits z) s.entries t.entries H.cells (control b) (control b) a a' d d' alike fa fd; ports = H.ports; condition = H.condition };
        bits = λ i h b y. y;
      }
  access_narrower (checks b a d) (checks b' a' d') (check fa) q q' =
      record {
        after =
            record {
              cells = H.cells;
              ports = H.ports;
              condition = λ y.
                  let c = check_holds z s.entries b a d in
                  and_both t.condition (check_holds z t.entries b a' d) (H.condition (and_left s.condition c y))
                  (check_narrower z s.entries t.entries H.cells b a a' d fa q.0.1 (and_right s.condition c y));
            };
        bits = λ i h b y. y;
      }
  access_narrower (writes c a d) (reads p' e' a') x6 q q' = elim x6 [ ]
  access_narrower (writes c a d) (asserts b' a' d') x7 q q' = elim x7 [ ]
  access_narrower (writes c a d) (checks b' a' d') x8 q q' = elim x8 [ ]
  access_narrower (writes c a d) nothing x9 q q' = elim x9 [ ]
  access_narrower (reads p e a) (writes c' a' d') x5 q q' = elim x5 [ ]
  access_narrower (reads p e a) (asserts b' a' d') x6 q q' = elim x6 [ ]
  access_narrower (reads p e a) (checks b' a' d') x7 q q' = elim x7 [ ]
  access_narrower (reads p e a) nothing x8 q q' = elim x8 [ ]
  access_narrower (asserts b a d) (writes c' a' d') x6 q q' = elim x6 [ ]
  access_narrower (asserts b a d) (reads p' e' a') x7 q q' = elim x7 [ ]
  access_narrower (asserts b a d) (checks b' a' d') x8 q q' = elim x8 [ ]
  access_narrower (asserts b a d) nothing x9 q q' = elim x9 [ ]
  access_narrower (checks b a d) (writes c' a' d') x7 q q' = elim x7 [ ]
  access_narrower (checks b a d) (reads p' e' a') x8 q q' = elim x8 [ ]
  access_narrower (checks b a d) (asserts b' a' d') x9 q q' = elim x9 [ ]
  access_narrower (checks b a d) nothing x10 q q' = elim x10 [ ]
  access_narrower nothing f x7 q q' = elim x7 [ ]

-- two runs begin alike
pub nothing_narrower : (z : Sizes) → NarrowerHeld z holds_nothing holds_nothing
nothing_narrower z = record { cells = λ x i h b y. y; ports = λ p i h b y. y; condition = λ y. y }

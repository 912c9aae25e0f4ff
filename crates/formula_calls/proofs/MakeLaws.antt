-- Accesses made up to the first refusal are the calls tried: what they leave, and which of them were accepted.
use mathlib.Core.Path.{◌≡◌, refl, ap}
use mathlib.Core.Bool.{true, false, false≢true}
use mathlib.Core.List.{List, [], ◌∷◌}
use Prim.Native.Nat.{ℕ, zero, suc, ◌<◌, ◌≤◌}
use native.Mathlib.Omega.{arith}
use lib.ListN.{length, take}
use Rattle.model.specs.Record.{Record}
use Rattle.model.specs.Formula.{Triple}
use Rattle.model.specs.Step.{State, with_words, Access, Call, access, Answer, refused, done, is_refused, step, run, AllAccepted}
use Rattle.model.specs.Frames.{words_after, clears, numbers, RefusalNumber}
use Rattle.model.specs.Frames as frames
use Rattle.model.proofs.FrameLaws.{refusal-number, refusal-leaves}
use Rattle.formula_calls.specs.Call.{Making, accesses_by, unless_refused, make}
use Rattle.formula_calls.specs.Claims as claims
use Rattle.formula_calls.specs.Claims.{tried, RefusedAfter}

pub accesses-length : (k : Making) (r : Record) (table : List ℕ) (ts : List Triple) → length (accesses_by k r table ts) ≡ length ts
accesses-length k r table [] = refl
accesses-length k r table (t ∷ ts) = ap suc (accesses-length k r table ts)

pub make-leaves : (cs : List Access) (s : State) → (make cs s).after ≡ run (tried cs s) s
unfolding make tried run
make-leaves [] s = refl
make-leaves (c ∷ cs) s = go (step (access c) s).answer (make-leaves cs (step (access c) s).after)
  where
    go : (x : Answer) → let t = (step (access c) s).after in (make cs t).after ≡ run (tried cs t) t → (unless_refused x t (make cs t)).after ≡ run (claims.unless_refused x (tried cs t)) t
    go (refused k) e = refl
    go (done g) e = e

-- by the row of the first refusal, or 0, of n accesses of which m were made
abbrev pub Ended : ℕ → ℕ → ℕ → List Call → State → Type 0
Ended zero n m cs s = (length cs ≡ n) × AllAccepted cs s
Ended (suc k) n m cs s = (m < n) × RefusedAfter m (suc k) cs s

pub make_ended : (cs : List Access) (s : State) → let m = make cs s in Ended m.row (length cs) m.many (tried cs s) s
unfolding make tried RefusalNumber
make_ended [] s = (refl, tt)
make_ended (c ∷ cs) s = go (step (access c) s).answer refl (make_ended cs (step (access c) s).after)
  where
    t : State
    t = (step (access c) s).after

    positive : (k : ℕ) → numbers k ≡ true → 1 ≤ k
    positive zero e = absurd (false≢true e)
    positive (suc k) e = omega arith

    refuses : (k : ℕ) → (step (access c) s).answer ≡ refused k → 1 ≤ k → Ended k (suc (length cs)) 0 (access c ∷ []) s
    refuses zero e l = absurd (omega arith)
    refuses (suc k) e l = (omega arith, (e, refl))

    more : (k n m : ℕ) (ds : List Call) → is_refused (step (access c) s).answer ≡ false → Ended k n m ds t → Ended k (suc n) (suc m) (access c ∷ ds) s
    more zero n m ds a E = (ap suc E.0, (a, E.1))
    more (suc k) n m ds a E = (omega (arith, E.0), (a, E.1))

    go : (x : Answer) → (step (access c) s).answer ≡ x → let m = make cs t in Ended m.row (length cs) m.many (tried cs t) t
        → let l = unless_refused x t m in Ended l.row (suc (length cs)) l.many (access c ∷ claims.unless_refused x (tried cs t)) s
    go (refused k) e E = refuses k e (positive k (refusal-number (access c) s k e))
    go (done g) e E = more (make cs t).row (length cs) (make cs t).many (tried cs t) (ap is_refused e) E

-- "those made stand": what the refused access leaves of the state that those made left
pub make-stopped : (cs : List Access) (s : State) (j : ℕ) → (make cs s).row ≡ suc j → let t = run (take (make cs s).many (tried cs s)) s in (make cs s).after ≡ with_words t (words_after (clears (suc j)) t)
unfolding make tried run frames.RefusalLeaves
make-stopped [] s j e = absurd (omega arith)
make-stopped (c ∷ cs) s j e = go (step (access c) s).answer refl (make-stopped cs (step (access c) s).after j) e
  where
    t : State
    t = (step (access c) s).after

    go : (x : Answer) → (step (access c) s).answer ≡ x → ((make cs t).row ≡ suc j → let u = run (take (make cs t).many (tried cs t)) t in (make cs t).after ≡ with_words u (words_after (clears (suc j)) u))
        → let l = unless_refused x t (make cs t) in l.row ≡ suc j → let u = run (take l.many (access c ∷ claims.unless_refused x (tried cs t))) s in l.after ≡ with_words u (words_after (clears (suc j)) u)
    go (refused k) e E z = refusal-leaves (access c) s (suc j) (rw z at e)
    go (done g) e E z = E z

-- The ways in which an access at a running case's place can go.
use mathlib.Core.Path.{◌≡◌, refl, sym, ap, subst, ◌∙◌}
use mathlib.Core.Bool.{Bool, true, false, cond, true≢false, false≢true}
use mathlib.Core.List.{List}
use Prim.Native.Nat.{ℕ}
use native.Mathlib.Omega.{arith}
use Rattle.text.specs.Text.{Out, appended}
use Rattle.model.specs.Step.{State, Call, Answer, is_refused, step}
use Rattle.model.specs.Step as model
use Rattle.format.specs.declared.Kind.{Kind}
use Rattle.format.specs.Accesses.{Found, found, end_of, access_at, goes_on_from}
use Rattle.format.specs.Accesses as accesses
use Rattle.format.proofs.AccessLaws.{access_lies}
use Rattle.cases.specs.Case.{line_of, Running, goes, stops, printed, said, done_as, done, one}
use Rattle.cases.specs.Claims.{call_at, StandsAt}

-- an answer that is no refusal
pub said-printed : (a : Answer) (s : State) (at : ℕ) (o : Out) → is_refused a ≡ false → said a s at o ≡ printed s at (appended (line_of a s) o)
said-printed (model.refused k) s at o e = absurd (true≢false e)
said-printed (model.done g) s at o e = refl

-- the call at a running case's place
abbrev pub call_here : List ℕ → Running → Call
call_here file c = call_at file c.state.rec.sizes.n c.state.rec.sizes.w c.at

-- the case after the access at its place, where it goes on
abbrev pub after_one : List ℕ → Running → Running
after_one file c =
    let x = step (call_here file c) c.state in
    record { state = x.after; at = end_of file c.at c.state.rec.sizes.n c.state.rec.sizes.w; text = appended (line_of x.answer x.after) c.text }

-- an access stands there, and what it answers
abbrev pub StandsHere : List ℕ → Running → Type 0
StandsHere file c = StandsAt file c.state.rec.sizes.n c.state.rec.sizes.w c.at

abbrev pub answer_here : List ℕ → Running → Answer
answer_here file c = (step (call_here file c) c.state).answer

-- it goes on, or its line does not fit, or its call is refused, or it is not there
pub data Way (file : List ℕ) (c : Running) : Type 0 where
  goes_on : one file c ≡ goes (after_one file c) → StandsHere file c → is_refused (answer_here file c) ≡ false → (after_one file c).text.text.full ≡ false → Way file c
  is_over : one file c ≡ stops 13 → StandsHere file c → is_refused (answer_here file c) ≡ false → (after_one file c).text.text.full ≡ true → Way file c
  is_refused_by : (k : ℕ) → one file c ≡ stops k → StandsHere file c → answer_here file c ≡ model.refused k → Way file c
  is_missing : (k : ℕ) → one file c ≡ stops k → access_at file c.at c.state.rec.sizes.n c.state.rec.sizes.w ≡ accesses.refused k → Way file c

-- the number of a refusal
record Numbered (a : Answer) : Type 0 where
  number : ℕ
  is : a ≡ model.refused number

numbered : (a : Answer) → is_refused a ≡ true → Numbered a
numbered (model.refused k) e = record { number = k; is = refl }
numbered (model.done g) e = absurd (false≢true e)

-- an access that is found stands there
found_stands : (file : List ℕ) (at n w : ℕ) {k : Kind} {values : List (List ℕ)} → access_at file at n w ≡ found k values → StandsAt file n w at
found_stands file at n w q = let L = access_lies file at n w (sym q) in q ∙ (λ i. found (L.kind_is i) (L.values_are i))

module _ (file : List ℕ) (c : Running) where
  one-said : StandsHere file c → one file c ≡ said (answer_here file c) (after_one file c).state (after_one file c).at c.text
  unfolding one done
  one-said S = ap (λ (y : Found). done_as y (goes_on_from y (end_of file c.at c.state.rec.sizes.n c.state.rec.sizes.w) c.at) c.state c.text) S

  pub one-done : StandsHere file c → is_refused (answer_here file c) ≡ false → (f : Bool) → (after_one file c).text.text.full ≡ f → one file c ≡ cond f (stops 13) (goes (after_one file c))
  one-done S a f q =
      one-said S
      ∙ said-printed (answer_here file c) (after_one file c).state (after_one file c).at c.text a
      ∙ ap (λ (y : Bool). cond y (stops 13) (goes (after_one file c))) q

  one_none : {k : ℕ} → access_at file c.at c.state.rec.sizes.n c.state.rec.sizes.w ≡ accesses.refused k → one file c ≡ stops k
  unfolding one
  one_none q = ap (λ (y : Found). done_as y (goes_on_from y (end_of file c.at c.state.rec.sizes.n c.state.rec.sizes.w) c.at) c.state c.text) q

  pub way : Way file c
  way = there (access_at file c.at c.state.rec.sizes.n c.state.rec.sizes.w) refl
    where
      line : (f : Bool) → (after_one file c).text.text.full ≡ f → StandsHere file c → is_refused (answer_here file c) ≡ false → Way file c
      line true q S a = is_over (one-done S a true q) S a q
      line false q S a = goes_on (one-done S a false q) S a q

      called : (b : Bool) → is_refused (answer_here file c) ≡ b → StandsHere file c → Way file c
      called true q S =
          let N = numbered (answer_here file c) q in
          is_refused_by N.number (one-said S ∙ ap (λ (a : Answer). said a (after_one file c).state (after_one file c).at c.text) N.is) S N.is
      called false q S = line (after_one file c).text.text.full refl S q

      there : (f : Found) → access_at file c.at c.state.rec.sizes.n c.state.rec.sizes.w ≡ f → Way file c
      there (found k values) q = called (is_refused (answer_here file c)) refl (found_stands file c.at c.state.rec.sizes.n c.state.rec.sizes.w q)
      there (accesses.refused k) q = is_missing k (one_none q) q

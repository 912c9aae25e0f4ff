-- A look and a read of a unit of one cell build what those of a cell build.
use mathlib.Core.Path.{◌≡◌, refl, sym, ap, ◌∙◌}
use mathlib.Core.List.{List, [], ◌∷◌, ◌++◌}
use Prim.Native.Nat.{ℕ, ◌+◌, ◌*◌, ◌-◌}
use native.Mathlib.Omega.{arith}
use Rattle.conditions.specs.Build.{Store, Outcome, Build, pure, next}
use Rattle.conditions.proofs.Promises.{next_is, each_end, each_step}
use Rattle.model.specs.Record.{Record}
use Rattle.model.specs.Access.{Look, Read}
use Rattle.units.specs.Parts.{Order, little, big, offset}
use Rattle.unit_programs.specs.Units.{PartAddress, look_part, zero_pairs, LookUnit, ReadUnit}
use Rattle.unit_programs.specs.Claims.{Lent, AddingNothing, OneCell}
use Rattle.unit_programs.proofs.ZeroLaws.{then-pure, adding-nothing}

-- a step after which nothing more is built or changed
then_same : {A : Type 0} (x : Outcome A) (k : A → Build A) → ((v : A) (w : List ℕ) (s : Store) → k v w s ≡ pure v w s) → next x k ≡ x
then_same x k e = sym (next_is k refl refl) ∙ e x.answer x.words x.store

append_nil : (l : List ℕ) → l ++ [] ≡ l
append_nil [] = refl
append_nil (v ∷ l) = ap {B = List ℕ} (λ z. v ∷ z) (append_nil l)

nothing_above : (w : ℕ) (l : List ℕ) → l ++ zero_pairs ((1 - 1) * w) ≡ l
nothing_above w l = let e : (1 - 1) * w ≡ 0 = omega arith in ap (λ (k : ℕ). l ++ zero_pairs k) e ∙ append_nil l

offset-none : (o : Order) → offset o 1 1 ≡ 0
offset-none little = refl
offset-none big = refl

look_one : (o : Order) (r : Record) (l a : List ℕ) (w : List ℕ) (s : Store) → Lent r.sizes.n a w s → LookUnit 1 o r l 1 a w s ≡ Look r l a w s
unfolding LookUnit look_part PartAddress AddingNothing
look_one o r l a w s A =
    let part : look_part o r l 1 a 0 [] w s ≡ Look r l a w s
    = then-pure _ (rw (offset-none o) (adding-nothing r.sizes.n a w s A)) ∙ then_same (Look r l a w s) (λ looked. pure looked) (λ v w s. refl) in
    then_same _ (λ word. pure (word ++ zero_pairs ((1 - 1) * r.sizes.w))) (λ v w s. ap (λ (z : List ℕ). pure z w s) (nothing_above r.sizes.w v))
    ∙ each_step (look_part o r l 1 a) [] w s 1 0 (omega arith)
    ∙ then_same _ _ (λ v w s. each_end (look_part o r l 1 a) v w s 1 0 refl)
    ∙ part

pub one_cell : OneCell
unfolding ReadUnit Read
one_cell = record {
  look = look_one;
  read = λ o r l held eh el a w s A.
      let e : 1 * r.sizes.w ≡ r.sizes.w = omega arith in
      rw (look_one o r l a w s A, e);
}

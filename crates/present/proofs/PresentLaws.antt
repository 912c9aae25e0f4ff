-- Ite builds nothing where a node stands for its answer, and answers that node.
use Rattle.std.proofs.Math.Decide.{dec_lt, ℕ_discrete}
use Rattle.std.proofs.Common.{◌≡◌, refl, sym, ap, ◌∙◌, Bool, true, false, List, ℕ, zero, suc, ◌+◌, ◌<◌, ◌≤◌, arith, Option, Some, None}
use Rattle.nodes.specs.Words.{var_at, low_at, high_at, child_at}
use Rattle.nodes.specs.Standard.{Standard}
use Rattle.nodes.proofs.WordsLaws.{has_words_lem}
use Rattle.nodes.proofs.GrowthLaws.{inner}
use Rattle.diagrams.specs.Value.{value}
use Rattle.diagrams.specs.Assignment.{number_of, change}
use Rattle.diagrams.proofs.AssignmentLaws.{change-same, number_fits, number-value}
use Rattle.diagrams.proofs.ValueLaws.{value_child}
use Rattle.diagrams.proofs.CanonLaws.{node-same, value-change}
use Rattle.diagrams.proofs.PartsLaws.{Ready, part_hit, part_miss, part_le, part_var, part-value, least-small}
use Rattle.operations.specs.declared.Store.{Store}
use Rattle.operations.specs.Build.{pure}
use Rattle.operations.specs.Make.{Make}
use Rattle.operations.specs.Ite.{plain_of, least_of, part_of, parts_of, Ite}
use Rattle.operations.specs.Meaning.{Stands}
use Rattle.operations.proofs.MakeLaws.{make_same, make_has}
use Rattle.operations.proofs.IteLaws.{Chosen, ready-builds, ite-done, Splits, splits, split_low, split-high, split_all}
use Rattle.present.specs.Present.{BuildsNothing}

-- the same under every assignment
record Agrees (w : List ℕ) (c f g h r : ℕ) : Type 0 where
  first : f < c
  second : g < c
  third : h < c
  node : r < c
  is : (φ : ℕ → Bool) → value w φ r ≡ Chosen w f g h φ

module _ {w : List ℕ} {c : ℕ} (S : Standard w c) where
  -- a node's value turns on its variable
  turns : (n : ℕ) → n < c → var_at w n < 64 → ((φ : ℕ → Bool) (b : Bool) → value w (change φ (var_at w n) b) n ≡ value w φ n) → ⊥
  turns n h small same =
      let o = S.shape n (inner S n h small) h in
      o.apart (node-same S (low_at w n) (high_at w n) (omega (arith, o.below false)) (omega (arith, o.below true)) (λ φ. child φ false ∙ sym (child φ true)))
    where
      child : (φ : ℕ → Bool) (b : Bool) → value w φ (child_at b w n) ≡ value w φ n
      child φ b =
          let l = inner S n h small in
          let o = S.shape n l h in
          sym (value-change S (child_at b w n) (var_at w n) (omega (arith, o.below b)) (o.after b) φ b)
          ∙ (value_child S (change φ (var_at w n) b) n (var_at w n) b l h refl (sym (change-same φ (var_at w n) b)) refl).1
          ∙ same φ b

  -- a part of a node, by the node's value on its side
  part_at : (v n : ℕ) → v < 64 → n < c → v ≤ var_at w n → (b : Bool) (φ : ℕ → Bool) → value w φ (part_of b w v n) ≡ value w (change φ v b) n
  part_at v n small h top b φ =
      sym (value-change S (part_of b w v n) v (omega (arith, part_le S v n h small top b)) (part_var S v n h small top b) φ b)
      ∙ (rw (change-same φ v b) at (part-value S v n h small top (change φ v b)))

  module _ (f g h r : ℕ) (A : Agrees w c f g h r) (small : least_of w f g h < 64) where
    -- the answer's node is on no variable below the three
    top : least_of w f g h ≤ var_at w r
    top = go (dec_lt (var_at w r) (least_of w f g h))
      where
        go : Dec (var_at w r < least_of w f g h) → least_of w f g h ≤ var_at w r
        go (no q) = omega arith
        go (yes p) =
            absurd (turns r A.node (omega arith)
            (λ φ b.
            A.is (change φ (var_at w r) b)
            ∙ (rw (value-change S f (var_at w r) A.first (omega arith) φ b, value-change S g (var_at w r) A.second (omega arith) φ b, value-change S h (var_at w r) A.third (omega arith) φ b) (sym (A.is φ)))))

    -- its parts answer for the parts
    parts-answer : (b : Bool) → Ready w c (part_of b w (least_of w f g h) f) (part_of b w (least_of w f g h) g) (part_of b w (least_of w f g h) h)
        → Agrees w c (part_of b w (least_of w f g h) f) (part_of b w (least_of w f g h) g) (part_of b w (least_of w f g h) h) (part_of b w (least_of w f g h) r)
    parts-answer b R =
        record {
          first = R.first;
          second = R.second;
          third = R.third;
          node = omega (arith, A.node, part_le S (least_of w f g h) r A.node small top b);
          is = λ φ.
              part_at (least_of w f g h) r small A.node top b φ ∙ A.is (change φ (least_of w f g h) b)
              ∙ (rw (part_at (least_of w f g h) f small A.first (omega arith) b φ, part_at (least_of w f g h) g small A.second (omega arith) b φ, part_at (least_of w f g h) h small A.third (omega arith) b φ));
        }

-- Make of a node's parts at a variable is the node
make_parts : (w : List ℕ) (s : Store) (v r : ℕ) → Standard w s.count → s.full ≡ false → v < 64 → r < s.count → Make v (part_of false w v r) (part_of true w v r) w s ≡ pure r w s
make_parts w s v r S free small l = go (ℕ_discrete (var_at w r) v)
  where
    go : Dec (var_at w r ≡ v) → Make v (part_of false w v r) (part_of true w v r) w s ≡ pure r w s
    go (yes e) = rw (part_hit false w v r e, part_hit true w v r e) (make_has s (low_at w r) (high_at w r) S small free r l (has_words_lem w v (low_at w r) (high_at w r) r (record { var = e; low = refl; high = refl })))
    go (no q) = rw (part_miss false w v r q, part_miss true w v r q) (make_same w s v r r free refl)

-- where the three numbers add up to less than t
Nothing : ℕ → Type 0
Nothing t = (w : List ℕ) (s : Store) (f g h r : ℕ) → f + g + h < t → Standard w s.count → s.full ≡ false → Agrees w s.count f g h r → Ite f g h w s ≡ pure r w s

module _ (t : ℕ) (ih : Nothing t) (w : List ℕ) (s : Store) (f g h r : ℕ) (less : f + g + h < suc t) (S : Standard w s.count) (free : s.full ≡ false) (A : Agrees w s.count f g h r) where
  all : Ready w s.count f g h
  all = record { standard = S; first = A.first; second = A.second; third = A.third }

  by_rule : (d : Option ℕ) → plain_of s.full f g h ≡ d → Ite f g h w s ≡ pure r w s
  unfolding Nothing
  by_rule (Some n) e =
      let N : Stands 0 (Chosen w f g h) w s n = rw (← ite-done w s f g h n all e) at (ready-builds {s = s} all).post in
      sym (ite-done w s f g h n all e) ∙ ap (λ (m : ℕ). pure m w s) (node-same S n r N.below A.node (λ φ. N.is free φ ∙ sym (A.is φ)))
  by_rule None e =
      let d = parts_of w f g h in
      let n : Splits s.full f = splits s.full f g h e in
      let small = least-small f g h all n.not1 n.not0 in
      let low = split_low w s f g h d all e refl in
      let high = split-high w s f g h d all e refl in
      let ax = ih w s d.f0 d.g0 d.h0 (part_of false w d.v r) (omega (arith, low.0)) S free (parts-answer S f g h r A small false low.1) in
      let ay = ih w s d.f1 d.g1 d.h1 (part_of true w d.v r) (omega (arith, high.0)) S free (parts-answer S f g h r A small true high.1) in
      sym (split_all w s f g h d all e refl (sym ax) (sym ay) (sym (make_parts w s d.v r S free small A.node)))

nothing_up_to : (t : ℕ) → Nothing t
unfolding Nothing
nothing_up_to zero w s f g h r less S free A = absurd (omega arith)
nothing_up_to (suc t) w s f g h r less S free A = by_rule t (nothing_up_to t) w s f g h r less S free A (plain_of s.full f g h) refl

pub builds-nothing : BuildsNothing
unfolding BuildsNothing Nothing
builds-nothing w s f g h r S free A = nothing_up_to (suc (f + g + h)) w s f g h r (omega arith) S free (record {
  first = A.first;
  second = A.second;
  third = A.third;
  node = A.node;
  is = λ φ. sym (number-value S φ r A.node) ∙ A.is (number_of φ 64) (number_fits 64 φ) ∙ (rw (number-value S φ f A.first, number-value S φ g A.second, number-value S φ h A.third));
})

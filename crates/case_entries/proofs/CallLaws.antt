-- The call of an access whose nodes are cut where its parts end.
use Rattle.std.proofs.Common.{◌≡◌, refl, sym, ap, ◌∙◌, List, [], ◌∷◌, ℕ, ◌+◌, ◌*◌, length, get_or, replicate, arith}
use Rattle.model.specs.Record.{part}
use Rattle.model.specs.Step.{write, read, assert, check, access}
use Rattle.model.proofs.ListLaws.{part-size}
use Rattle.format.specs.declared.Kind.TheVariants.{Write, Read, Assert, Check}
use Rattle.format.specs.Fields.{fields_of}
use Rattle.reading.specs.declared.Ends.{Ends}
use Rattle.reading.specs.Layout.{lead_of, ends_of, size_of, told}
use Rattle.cases.specs.Case.{call_of}

-- b alone is the first node
first_part : (ops : List ℕ) → get_or (part ops 0 1) 0 0 ≡ get_or ops 0 0
first_part [] = refl
first_part (x ∷ ops) = refl

-- the lengths of the parts
abbrev pub Cut : List ℕ → Ends → ℕ → ℕ → ℕ → Type 0
Cut ops e c a d = (length (part ops 0 e.control) ≡ c) × (length (part ops e.control e.address) ≡ a) × (length (part ops e.address e.word) ≡ d)

cut : (ops : List ℕ) (e x : Ends) (c a d : ℕ) → e ≡ x → x.control ≡ c → x.address ≡ c + a → x.word ≡ c + a + d → length ops ≡ x.word → Cut ops e c a d
cut ops e x c a d q qc qa qd l =
    let zero-first : c ≡ 0 + c = omega arith in
    let ec : e.control ≡ c = ap (λ (y : Ends). y.control) q ∙ qc in
    let ea : e.address ≡ c + a = ap (λ (y : Ends). y.address) q ∙ qa in
    let ed : e.word ≡ c + a + d = ap (λ (y : Ends). y.word) q ∙ qd in (
      ap (λ (i : ℕ). length (part ops 0 i)) (ec ∙ zero-first) ∙ part-size ops 0 c (omega arith),
      (λ i. length (part ops (ec i) (ea i))) ∙ part-size ops c a (omega arith),
      (λ i. length (part ops (ea i) (ed i))) ∙ part-size ops (c + a) d (omega arith),
    )

module _ (n w : ℕ) (ops : List ℕ) (e : Ends) where
  pub write_cut : e ≡ ends_of Write n w → length ops ≡ size_of Write n w → Cut ops e 2 (2 * n) (2 * w)
  unfolding ends_of fields_of
  write_cut q l = cut ops e _ 2 (2 * n) (2 * w) q refl refl refl l

  pub read_cut : e ≡ ends_of Read n w → length ops ≡ size_of Read n w → Cut ops e 2 (2 * n) 0
  unfolding ends_of fields_of
  read_cut q l = cut ops e _ 2 (2 * n) 0 q refl refl (omega arith) l

  pub assert_cut : e ≡ ends_of Assert n w → length ops ≡ size_of Assert n w → Cut ops e 1 (2 * n) (2 * w)
  unfolding ends_of fields_of
  assert_cut q l = cut ops e _ 1 (2 * n) (2 * w) q refl refl refl l

  pub check_cut : e ≡ ends_of Check n w → length ops ≡ size_of Check n w → Cut ops e 1 (2 * n) (2 * w)
  unfolding ends_of fields_of
  check_cut q l = cut ops e _ 1 (2 * n) (2 * w) q refl refl refl l

  pub write-told : (p : ℕ) → e ≡ ends_of Write n w → call_of Write w (told Write n w p ops) ≡ access (write (part ops 0 e.control) (part ops e.control e.address) (part ops e.address e.word))
  unfolding call_of lead_of fields_of
  write-told p q = ap (λ (x : Ends). access (write (part ops 0 x.control) (part ops x.control x.address) (part ops x.address x.word))) (sym q)

  pub read_told : (p : ℕ) → e ≡ ends_of Read n w → call_of Read w (told Read n w p ops) ≡ access (read p (part ops 0 e.control) (part ops e.control e.address) (replicate (2 * w) 0))
  unfolding call_of lead_of fields_of
  read_told p q = ap (λ (x : Ends). access (read p (part ops 0 x.control) (part ops x.control x.address) (replicate (2 * w) 0))) (sym q)

  pub assert-told : (p : ℕ) → e ≡ ends_of Assert n w → call_of Assert w (told Assert n w p ops) ≡ access (assert (get_or ops 0 0) (part ops e.control e.address) (part ops e.address e.word))
  unfolding call_of lead_of ends_of fields_of
  assert-told p q =
      ap (λ (x : Ends). access (assert (get_or (part ops 0 x.control) 0 0) (part ops x.control x.address) (part ops x.address x.word))) (sym q)
      ∙ ap (λ (x : Ends). access (assert (get_or (part ops 0 x.control) 0 0) (part ops e.control e.address) (part ops e.address e.word))) q
      ∙ ap (λ (b : ℕ). access (assert b (part ops e.control e.address) (part ops e.address e.word))) (first_part ops)

  pub check-told : (p : ℕ) → e ≡ ends_of Check n w → call_of Check w (told Check n w p ops) ≡ access (check (get_or ops 0 0) (part ops e.control e.address) (part ops e.address e.word))
  unfolding call_of lead_of ends_of fields_of
  check-told p q =
      ap (λ (x : Ends). access (check (get_or (part ops 0 x.control) 0 0) (part ops x.control x.address) (part ops x.address x.word))) (sym q)
      ∙ ap (λ (x : Ends). access (check (get_or (part ops 0 x.control) 0 0) (part ops e.control e.address) (part ops e.address e.word))) q
      ∙ ap (λ (b : ℕ). access (check b (part ops e.control e.address) (part ops e.address e.word))) (first_part ops)

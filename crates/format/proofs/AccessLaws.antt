-- An access that is found lies in the file.
use mathlib.Core.Path.{◌≡◌, refl, ap, ◌∙◌}
use mathlib.Core.Bool.{true}
use mathlib.Core.List.{List}
use Prim.Native.Nat.{ℕ, zero, suc, ◌+◌, ◌<◌, ◌≤◌}
use native.Mathlib.Omega.{arith}
use lib.ListN.{length}
use borrow.Author.Tests.{leb-true}
use Rattle.model.specs.Rows.{first_row}
use Rattle.model.proofs.FactLaws.{rows-hold}
use Rattle.format.specs.declared.Kind.{Kind}
use Rattle.format.specs.Kinds.{is_known}
use Rattle.format.specs.Accesses.{found, kind_at, fields_at, held_at, end_of, access_rows, found_unless, access_at}
use Rattle.format.proofs.FieldLaws.{fields-after}

-- what is known of an access found at a place
pub record Lies (file : List ℕ) (at n w : ℕ) (kind : Kind) (values : List (List ℕ)) : Type 0 where
  pub kind_is : kind ≡ kind_at file at
  pub values_are : values ≡ held_at file at n w
  pub known : is_known kind ≡ true
  pub inside : end_of file at n w ≤ length file
  pub after : at < end_of file at n w

module _ (file : List ℕ) (at n w : ℕ) where
  pub access_lies : {kind : Kind} {values : List (List ℕ)} → found kind values ≡ access_at file at n w → Lies file at n w kind values
  unfolding access_at
  access_lies {kind} {values} e = go (first_row (access_rows file at n w)) refl e
    where
      go : (r : ℕ) → first_row (access_rows file at n w) ≡ r → found kind values ≡ found_unless r (found (kind_at file at) (held_at file at n w)) → Lies file at n w kind values
      go zero q e =
          let Q = rows-hold (access_rows file at n w) refl q in
          let i : kind ≡ kind_at file at = cc in
          record {
            kind_is = i;
            values_are = cc;
            known = ap is_known i ∙ Q.1.0;
            inside = leb-true (end_of file at n w) (length file) Q.1.1.0;
            after = omega (arith, fields-after (at + 1) (fields_at file at n w));
          }
      go (suc r) q e = let z : ◌≡◌ {A = ℕ} 0 1 = cc in absurd (omega arith)

-- Where the parts of an access end, kind by kind, and that this is its fields.
use Rattle.std.proofs.Common.{◌≡◌, refl, ℕ, ◌+◌, ◌*◌, ◌≤◌, ◌⊎◌, inl, inr, true, arith}
use mathlib.Core.Bool.{false≢true}
use Rattle.format.specs.declared.Kind.{Kind}
use Rattle.format.specs.declared.Kind.TheVariants.{Write, Read, Assert, Check, Unknown}
use Rattle.format.specs.Kinds.{is_known}
use Rattle.format.specs.Fields.{fields_of, fields_end}
use Rattle.reading.specs.declared.Ends.{Ends}
use Rattle.reading.specs.Layout.{lead_of, ends_of, size_of}

-- ends by their parts
pub ends_are : (r : Ends) {c a d : ℕ} → r.control ≡ c → r.address ≡ a → r.word ≡ d → r ≡ record { control = c; address = a; word = d }
ends_are r c a d = λ i. record { control = c i; address = a i; word = d i }

-- those of an assert or a check, which have one control node
pub ends_one : (n w : ℕ) {k : Kind} {r : Ends} → (k ≡ Assert) ⊎ (k ≡ Check) → (r.control ≡ 1) × (r.address ≡ 1 + 2 * n) × (r.word ≡ 1 + 2 * n + 2 * w) → r ≡ ends_of k n w
unfolding ends_of fields_of
ends_one n w {r = r} (inl e) p = rw e (ends_are r p.0 p.1 p.2)
ends_one n w {r = r} (inr e) p = rw e (ends_are r p.0 p.1 p.2)

module _ (n w : ℕ) where
  pub size-most : (kind : Kind) → size_of kind n w ≤ 2 + 2 * n + 2 * w
  unfolding ends_of fields_of
  size-most Write = omega arith
  size-most Read = omega arith
  size-most Assert = omega arith
  size-most Check = omega arith
  size-most Unknown = omega arith

  -- an access of a kind has nodes; at most one byte stands before them
  pub known-size : (kind : Kind) → is_known kind ≡ true → 1 ≤ size_of kind n w
  unfolding ends_of fields_of
  known-size Write e = omega arith
  known-size Read e = omega arith
  known-size Assert e = omega arith
  known-size Check e = omega arith
  known-size Unknown e = absurd (false≢true e)

  -- the bytes of the fields are these
  pub fields_end_lem : (kind : Kind) (at : ℕ) → fields_end at (fields_of kind n w) ≡ at + lead_of kind + 2 * size_of kind n w
  unfolding fields_end lead_of ends_of fields_of
  fields_end_lem Write at = omega arith
  fields_end_lem Read at = omega arith
  fields_end_lem Assert at = omega arith
  fields_end_lem Check at = omega arith
  fields_end_lem Unknown at = omega arith

pub lead-most : (kind : Kind) → lead_of kind ≤ 1
unfolding lead_of fields_of
lead-most Write = omega arith
lead-most Read = omega arith
lead-most Assert = omega arith
lead-most Check = omega arith
lead-most Unknown = omega arith

-- the kinds but a read have no byte before their nodes, and no port
pub lead-none : (kind : Kind) → (kind ≡ Read → ⊥) → 0 ≡ lead_of kind
unfolding lead_of fields_of
lead-none Write h = refl
lead-none Read h = absurd (h refl)
lead-none Assert h = refl
lead-none Check h = refl
lead-none Unknown h = refl

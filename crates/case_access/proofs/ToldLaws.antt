-- The call by the nodes read together is that of the fields.
use mathlib.Core.Path.{◌≡◌, refl}
use mathlib.Core.List.{List}
use Prim.Native.Nat.{ℕ, ◌+◌, ◌*◌}
use native.Mathlib.Omega.{arith}
use lib.ListN.{get_or, replicate}
use Rattle.model.specs.Record.{part}
use Rattle.model.specs.Step.{write, read, assert, check, access}
use Rattle.format.specs.declared.Kind.{Kind}
use Rattle.format.specs.declared.Kind.TheVariants.{Write, Read, Assert, Check, Unknown}
use Rattle.format.specs.Bytes.{numbers_at}
use Rattle.format.specs.Fields.{fields_of, values_at}
use Rattle.format.proofs.BytesLaws.{part-numbers}
use Rattle.reading.specs.Layout.{lead_of, port_of, ends_of, size_of, told}
use Rattle.cases.specs.Case.{call_of}

module _ (file : List ℕ) (at n w : ℕ) where
  abbrev nodes : Kind → List ℕ
  nodes k = numbers_at file (at + lead_of k) (size_of k n w)

  pub call-told : (k : Kind) → call_of k w (told k n w (port_of k (get_or file at 0)) (nodes k)) ≡ call_of k w (values_at file at (fields_of k n w))
  unfolding call_of lead_of port_of ends_of fields_of values_at
  call-told Write =
      let c : part (numbers_at file (at + 0) (2 + 2 * n + 2 * w)) 0 2 ≡ numbers_at file at 2 = part-numbers file (at + 0) (2 + 2 * n + 2 * w) 0 2 2 at (omega arith) (omega arith) (omega arith) in
      let a : part (numbers_at file (at + 0) (2 + 2 * n + 2 * w)) 2 (2 + 2 * n) ≡ numbers_at file (at + 2 * 2) (2 * n) = part-numbers file (at + 0) (2 + 2 * n + 2 * w) 2 (2 + 2 * n) (2 * n) (at + 2 * 2) (omega arith) (omega arith) (omega arith) in
      let d : part (numbers_at file (at + 0) (2 + 2 * n + 2 * w)) (2 + 2 * n) (2 + 2 * n + 2 * w) ≡ numbers_at file (at + 2 * 2 + 2 * (2 * n)) (2 * w) = part-numbers file (at + 0) (2 + 2 * n + 2 * w) (2 + 2 * n) (2 + 2 * n + 2 * w) (2 * w) (at + 2 * 2 + 2 * (2 * n)) (omega arith) (omega arith) (omega arith) in
      λ i. access (write (c i) (a i) (d i))
  call-told Read =
      let c : part (numbers_at file (at + 1) (2 + 2 * n)) 0 2 ≡ numbers_at file (at + 1) 2 = part-numbers file (at + 1) (2 + 2 * n) 0 2 2 (at + 1) (omega arith) (omega arith) (omega arith) in
      let a : part (numbers_at file (at + 1) (2 + 2 * n)) 2 (2 + 2 * n) ≡ numbers_at file (at + 1 + 2 * 2) (2 * n) = part-numbers file (at + 1) (2 + 2 * n) 2 (2 + 2 * n) (2 * n) (at + 1 + 2 * 2) (omega arith) (omega arith) (omega arith) in
      λ i. access (read (get_or file at 0) (c i) (a i) (replicate (2 * w) 0))
  call-told Assert =
      let c : part (numbers_at file (at + 0) (1 + 2 * n + 2 * w)) 0 1 ≡ numbers_at file at 1 = part-numbers file (at + 0) (1 + 2 * n + 2 * w) 0 1 1 at (omega arith) (omega arith) (omega arith) in
      let a : part (numbers_at file (at + 0) (1 + 2 * n + 2 * w)) 1 (1 + 2 * n) ≡ numbers_at file (at + 2 * 1) (2 * n) = part-numbers file (at + 0) (1 + 2 * n + 2 * w) 1 (1 + 2 * n) (2 * n) (at + 2 * 1) (omega arith) (omega arith) (omega arith) in
      let d : part (numbers_at file (at + 0) (1 + 2 * n + 2 * w)) (1 + 2 * n) (1 + 2 * n + 2 * w) ≡ numbers_at file (at + 2 * 1 + 2 * (2 * n)) (2 * w) = part-numbers file (at + 0) (1 + 2 * n + 2 * w) (1 + 2 * n) (1 + 2 * n + 2 * w) (2 * w) (at + 2 * 1 + 2 * (2 * n)) (omega arith) (omega arith) (omega arith) in
      λ i. access (assert (get_or (c i) 0 0) (a i) (d i))
  call-told Check =
      let c : part (numbers_at file (at + 0) (1 + 2 * n + 2 * w)) 0 1 ≡ numbers_at file at 1 = part-numbers file (at + 0) (1 + 2 * n + 2 * w) 0 1 1 at (omega arith) (omega arith) (omega arith) in
      let a : part (numbers_at file (at + 0) (1 + 2 * n + 2 * w)) 1 (1 + 2 * n) ≡ numbers_at file (at + 2 * 1) (2 * n) = part-numbers file (at + 0) (1 + 2 * n + 2 * w) 1 (1 + 2 * n) (2 * n) (at + 2 * 1) (omega arith) (omega arith) (omega arith) in
      let d : part (numbers_at file (at + 0) (1 + 2 * n + 2 * w)) (1 + 2 * n) (1 + 2 * n + 2 * w) ≡ numbers_at file (at + 2 * 1 + 2 * (2 * n)) (2 * w) = part-numbers file (at + 0) (1 + 2 * n + 2 * w) (1 + 2 * n) (1 + 2 * n + 2 * w) (2 * w) (at + 2 * 1 + 2 * (2 * n)) (omega arith) (omega arith) (omega arith) in
      λ i. access (check (get_or (c i) 0 0) (a i) (d i))
  call-told Unknown = refl

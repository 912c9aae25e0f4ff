-- The access at a place test by test, and what the functions' answers tell.
use Rattle.std.proofs.Common.{◌≡◌, sym, ap, ◌∙◌, Bool, true, false, not, List, ℕ, ◌+◌, ◌*◌, ◌-◌, ◌<◌, ◌≤◌, length, get_or, Result, Ok, Err, arith}
use borrow.Author.Tests.{lt-ltb, le-ltb, lt-leb, le-leb}
use Rattle.nodes.proofs.TestLaws.{test_fails, test-holds}
use Rattle.refusals.specs.declared.Refusal.{Refusal}
use Rattle.refusals.specs.Refusal.{number}
use Rattle.refusals.proofs.RefusalLaws.{number-above}
use Rattle.model.specs.Rows.{first_row}
use Rattle.format.specs.declared.Kind.{Kind}
use Rattle.format.specs.Kinds.{is_known}
use Rattle.format.specs.Fields.{fields_of, fields_end}
use Rattle.format.specs.Accesses.{Found, found, kind_at, held_at, end_of, access_at, goes_on, goes_on_from}
use Rattle.format.specs.Accesses as accesses
use Rattle.format.specs.Sections.{early_rows, sections}
use Rattle.format.proofs.AccessLaws.{access_lies}
use Rattle.format.proofs.SectionLaws.{SectionsRead, sections-read, refused_early}
use Rattle.reading.specs.declared.Access.{Access}
use Rattle.reading.specs.declared.Loaded.{Loaded}
use Rattle.reading.specs.Layout.{lead_of, port_of, size_of}
use Rattle.reading.specs.Contract.{port_in, nodes_at, Reads, sections_of}
use Rattle.reading.proofs.LayoutLaws.{known-size, fields_end_lem}

-- what is known of an access that is answered
pub record Stands (file : List ℕ) (at n w : ℕ) (a : Access) : Type 0 where
  pub kind_is : a.kind ≡ kind_at file at
  pub port_is : a.port ≡ port_in file at
  pub from_is : a.from ≡ nodes_at file at
  pub known : is_known a.kind ≡ true
  pub inside : a.from + 2 * size_of a.kind n w ≤ length file
  pub is : access_at file at n w ≡ found a.kind (held_at file at n w)

module _ (file : List ℕ) (at n w : ℕ) where
  -- where none is found, the reading stays
  pub stays : {k : ℕ} → access_at file at n w ≡ accesses.refused k → at ≡ goes_on file at n w
  stays e = sym (ap (λ (x : Found). goes_on_from x (end_of file at n w) at) e)

  -- the tests one after the other, each with what those before it found
  pub no_kind : length file ≤ at → access_at file at n w ≡ accesses.refused 10
  unfolding access_at
  no_kind h = rw (le-ltb at (length file) h)

  module _ (h : at < length file) {k : Kind} (e : k ≡ kind_at file at) {b : Bool} (f : b ≡ is_known k) where
    pub kind-unknown : not b ≡ true → access_at file at n w ≡ accesses.refused 11
    unfolding access_at
    kind-unknown u = rw (lt-ltb at (length file) h, ← e, test_fails f u)

    module _ (u : not b ≡ false) {s m : ℕ} (g : s ≡ size_of k n w) (d : m ≡ lead_of k) where
      -- the byte after it
      end_is : fields_end (at + 1) (fields_of k n w) ≡ at + 1 + (m + 2 * s)
      end_is = let z = fields_end_lem n w k (at + 1) in omega (arith, z, g, d)

      pub ends_early : length file - (at + 1) < m + 2 * s → access_at file at n w ≡ accesses.refused 10
      unfolding access_at
      ends_early l = rw (lt-ltb at (length file) h, ← e, test-holds f u, lt-leb (fields_end (at + 1) (fields_of k n w)) (length file) (omega (arith, end_is, l)))

      module _ (l : m + 2 * s ≤ length file - (at + 1)) where
        -- a byte stands after the kind: of a read its port
        pub next-byte : at + 1 < length file
        next-byte = omega (arith, known-size n w k (test-holds f u), g, l)

        pub here : access_at file at n w ≡ found k (held_at file at n w)
        unfolding access_at
        here = rw (lt-ltb at (length file) h, ← e, test-holds f u, le-leb (fields_end (at + 1) (fields_of k n w)) (length file) (omega (arith, end_is, l, h)))

        pub stands : {p q : ℕ} → p ≡ port_of k (get_or file (at + 1) 0) → q ≡ at + 1 + m → Reads file at n w (Ok (record { kind = k; port = p; from = q }))
        stands pe qe = (here, pe ∙ ap (λ (x : Kind). port_of x (get_or file (at + 1) 0)) e, qe ∙ ap (λ (i : ℕ). at + 1 + i) (d ∙ ap lead_of e))

        pub goes : at + 1 + (m + 2 * s) ≡ goes_on file at n w
        goes = sym end_is ∙ ap (λ (x : Kind). fields_end (at + 1) (fields_of x n w)) e ∙ sym (ap (λ (x : Found). goes_on_from x (end_of file at n w) at) here)

  -- an access that is answered stands there
  pub access_here : {r : Result Access Refusal} {a : Access} → r ≡ Ok a → Reads file at n w r → Stands file at n w a
  access_here {r} {a} e f = go (rw e at f)
    where
      go : Reads file at n w (Ok a) → Stands file at n w a
      go f =
          let L = access_lies file at n w (sym f.0) in
          let end : end_of file at n w ≡ at + 1 + lead_of (kind_at file at) + 2 * size_of (kind_at file at) n w = fields_end_lem n w (kind_at file at) (at + 1) in
          let size : size_of a.kind n w ≡ size_of (kind_at file at) n w = ap (λ (x : Kind). size_of x n w) L.kind_is in
          record {
            kind_is = L.kind_is;
            port_is = f.1;
            from_is = f.2;
            known = L.known;
            inside = omega (arith, L.inside, end, size, f.2);
            is = f.0;
          }

-- what is known of sections that are answered
pub sections-ready : (file words : List ℕ) {ws : List ℕ} {r : Result Loaded Refusal} {l : Loaded} → r ≡ Ok l → (ws, sections_of r) ≡ sections file words → SectionsRead file words ws l.sizes.n l.sizes.w l.count l.accesses l.at
sections-ready file words {ws} e f = sections-read file words (ap (λ (r : Result Loaded Refusal). (ws, sections_of r)) (sym e) ∙ f)

-- sections that a row refuses before the nodes are stored
pub early-refused : (file words : List ℕ) {r : Result Loaded Refusal} {k : Refusal} → r ≡ Err k → number k ≡ first_row (early_rows file words) → (words, sections_of r) ≡ sections file words
early-refused file words {k = k} e f =
    let n = number-above k in
    ap (λ (r : Result Loaded Refusal). (words, sections_of r)) e ∙ refused_early file words f (λ z. omega (arith, n, z))

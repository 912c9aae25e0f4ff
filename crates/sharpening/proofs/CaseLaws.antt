-- Two accepted case files: their calls are accepted accesses, so that those of one number are matched.
use mathlib.Core.Path.{◌≡◌, refl, sym, ap, subst}
use mathlib.Core.Bool.{Bool, true, false, false≢true}
use mathlib.Core.List.{List, [], ◌∷◌}
use Prim.Native.Nat.{ℕ, zero, suc}
use native.Mathlib.Omega.{arith}
use lib.Dec.{T, ltb, leb}
use lib.ListN.{length, get_or}
use Rattle.conditions.specs.Assignment.{bit_at}
use Rattle.model.specs.Record.{Record}
use Rattle.model.specs.Rows.{first_row}
use Rattle.format.specs.declared.Kind.{Kind}
use Rattle.format.specs.declared.Kind.TheVariants as kind
use Rattle.format.specs.Kinds.{is_known}
use Rattle.format.specs.Sections.{accesses_in, first_at}
use Rattle.format.specs.Accesses.{found, found_unless, kind_at, held_at, end_of, access_at}
use Rattle.format.specs.Accesses as accesses
use Rattle.cases.specs.Case.{call_of}
use Rattle.cases.specs.Claims.{calls_from, calls_in, state_in, StandsAt, AllStand, CaseText}
use Rattle.cases.proofs.CaseLaws.{case-text, case-begins, case-condition}
use Rattle.sharpening.specs.Claims.{Sharpening, CaseSharpening, CaseReplacing}
use Rattle.sharpening.proofs.NumberLaws.{IsAccess, AllAccesses, numbered}
use Rattle.sharpening.proofs.CallLaws.{sharpening}
use Rattle.sharpening.proofs.ReplacedLaws.{replaced-sharper}

-- an access that stands in a file is of a known kind
stands-known : (file : List ℕ) (n w at : ℕ) → StandsAt file n w at → is_known (kind_at file at) ≡ true
unfolding access_at
stands-known file n w at e = go (ltb at (length file)) (is_known (kind_at file at)) (leb (end_of file at n w) (length file)) e
  where
    go : (a b c : Bool) → found_unless (first_row ((10, a) ∷ (11, b) ∷ (10, c) ∷ [])) (found (kind_at file at) (held_at file at n w)) ≡ found (kind_at file at) (held_at file at n w) → b ≡ true
    go true true c e = refl
    go true false c e = let z : ◌≡◌ {A = ℕ} 0 1 = cc in absurd (omega arith)
    go false b c e = let z : ◌≡◌ {A = ℕ} 0 1 = cc in absurd (omega arith)

-- and its call an access
known-access : (k : Kind) (w : ℕ) (values : List (List ℕ)) → is_known k ≡ true → IsAccess (call_of k w values)
unfolding call_of
known-access kind.Write w v e = tt
known-access kind.Read w v e = tt
known-access kind.Assert w v e = tt
known-access kind.Check w v e = tt
known-access kind.Unknown w v e = absurd (false≢true e)

file-accesses : (file : List ℕ) (n w at m : ℕ) → AllStand file n w at m → AllAccesses (calls_from file n w at m)
unfolding calls_from
file-accesses file n w at zero t = tt
file-accesses file n w at (suc m) t =
    (known-access (kind_at file at) w (held_at file at n w) (stands-known file n w at t.0), file-accesses file n w (end_of file at n w) m t.1)

pub case-sharpening : CaseSharpening
unfolding CaseSharpening Sharpening CaseText
case-sharpening file words list text file' words' list' text' k k' r r' e e' es a small M =
    let φ = bit_at a in
    let P = case-text file words list text k r e in
    let P' = case-text file' words' list' text' k' r' e' in
    let s = state_in file words list in
    let t = state_in file' words' list' in
    let A = sharpening s t (case-begins file words list text k r e) (case-begins file' words' list' text' k' r' e') es (calls_in file) (calls_in file') a small M in
    let q = file-accesses file (get_or file 0 0) (get_or file 1 0) (first_at file) (accesses_in file) P.stand in
    let q' = file-accesses file' (get_or file' 0 0) (get_or file' 1 0) (first_at file') (accesses_in file') P'.stand in
    record {
      calls = numbered φ s t (calls_in file) (calls_in file') q q' P.accepted P'.accepted M A;
      checking = λ z.
          subst T (sym (case-condition file' words' list' text' k' r' P' φ)) (A.checking (subst T (case-condition file words list text k r P φ) z));
    }

-- files in which an X was replaced are sharper, under every assignment
pub case_replacing : CaseReplacing
unfolding CaseReplacing CaseSharpening CaseText
case_replacing file words list text file' words' list' text' k k' r r' e e' er ew C a small =
    case-sharpening file words list text file' words' list' text' k k' r r' e e' (ap (λ (x : Record). x.sizes) er) a small
    (replaced-sharper (bit_at a) (state_in file words list) (state_in file' words' list') er ew (calls_in file) (calls_in file') C
    (case-text file words list text k r e).accepted (case-text file' words' list' text' k' r' e').accepted)

-- What is written first, and then.
use Rattle.std.proofs.Common.{◌≡◌, refl, sym, ◌∙◌, true, List, [], ◌∷◌, ◌++◌, ℕ, ◌+◌, ◌<◌, length, take, get_or, add-one}
use Rattle.std.proofs.Math.Seq.{take-suc}
use Rattle.text.specs.declared.Writer.{Writer}
use Rattle.text.specs.Text.{appended}
use Rattle.text.specs.Writer.{out_of, SameBuffer, Wrote}
use Rattle.text.proofs.TextLaws.{appended-append, appended-full}

pub same_refl : (a : Writer) → SameBuffer a a
same_refl a = record { name = refl; long = refl }

pub same_trans : {a b c : Writer} → SameBuffer a b → SameBuffer b c → SameBuffer a c
same_trans S T = record { name = T.name ∙ S.name; long = T.long ∙ S.long }

pub wrote_nothing : (a : Writer) → Wrote a a []
unfolding appended
wrote_nothing a = record { is = refl; same = same_refl a }

-- a full text stays as it is
pub wrote_full : (a : Writer) (s : List ℕ) → a.text.full ≡ true → Wrote a a s
wrote_full a s h = record { is = sym (appended-full s (out_of a) h); same = same_refl a }

infixl 20 ◌then◌
pub ◌then◌ : {a b c : Writer} {s t : List ℕ} → Wrote a b s → Wrote b c t → Wrote a c (s ++ t)
◌then◌ {a} {s = s} {t = t} W V = record { is = rw (appended-append s t (out_of a), ← W.is) V.is; same = same_trans W.same V.same }

-- the byte at i after those in front of it
pub wrote_next : {a b c : Writer} (s : List ℕ) (i : ℕ) → i < length s → Wrote a b (take i s) → Wrote b c (get_or s i 0 ∷ []) → Wrote a c (take (i + 1) s)
wrote_next s i h W V = rw (add-one, take-suc s i 0 h) (W then V)

-- Lists of accesses and their sharper ones, over the published run.
use mathlib.Core.Bool.{Bool}
use mathlib.Core.List.{List, [], ◌∷◌}
use Prim.Native.Nat.{ℕ, zero, suc, ◌<◌}
use Rattle.semantics.specs.declared.Sizes.{Sizes}
use Rattle.semantics.specs.Sizes.{data_bits}
use Rattle.semantics.specs.Array.{Event, nothing}
use Rattle.semantics.specs.Held.{Held, held_after, RunMay}
use Rattle.sharper.specs.Sharper.{SharperAccess, SharperList, end, both, first, second, Matched}
use Rattle.sharper.specs.Narrower.{AccessNarrower, OneAccess, ListNarrower, AccessLists}
use Rattle.sharper.proofs.RunLaws.{access_narrower}

pub one-access : OneAccess
unfolding OneAccess
one-access z s t e f H m q q' = access_narrower z s t H e f m q q'

-- a list, of its first access and the rest
module _ (z : Sizes) (s t : Held) (es fs : List Event) (M : SharperList es fs) where
  both_narrower : (e f : Event) (m : SharperAccess e f) → AccessNarrower z s t e f → ListNarrower z (held_after z s e) (held_after z t f) es fs M → ListNarrower z s t (e ∷ es) (f ∷ fs) (both m M)
  both_narrower e f m A R = record { after = R.after; bits = bits }
    where
      bits : (j k : ℕ) → Matched (both m M) j k → (i : ℕ) → i < data_bits z → (b : Bool) → RunMay z t (f ∷ fs) k i b → RunMay z s (e ∷ es) j i b
      bits zero zero p i h b y = A.bits i h b y
      bits zero (suc k) p i h b y = absurd p
      bits (suc j) zero p i h b y = absurd p
      bits (suc j) (suc k) p i h b y = R.bits j k p i h b y

-- and of what is no access and the rest
pub access-lists : AccessLists
unfolding AccessLists
access-lists z s t [] [] end H q q' = record { after = H; bits = λ j k m i h b y. absurd m }
access-lists z s t (e ∷ es) (f ∷ fs) (both m M) H q q' =
    let A = access_narrower z s t H e f m q.0 q'.0 in
    both_narrower z s t es fs M e f m A (access-lists z (held_after z s e) (held_after z t f) es fs M A.after q.1 q'.1)
access-lists z s t (nothing ∷ es) fs (first M) H q q' = first_narrower (access-lists z s t es fs M H q.1 q')
  where
    first_narrower : ListNarrower z s t es fs M → ListNarrower z s t (nothing ∷ es) fs (first M)
    first_narrower R = record { after = R.after; bits = bits }
      where
        bits : (j k : ℕ) → Matched (first M) j k → (i : ℕ) → i < data_bits z → (b : Bool) → RunMay z t fs k i b → RunMay z s (nothing ∷ es) j i b
        bits zero k p i h b y = absurd p
        bits (suc j) k p i h b y = R.bits j k p i h b y
access-lists z s t es (nothing ∷ fs) (second M) H q q' = second_narrower (access-lists z s t es fs M H q q'.1)
  where
    second_narrower : ListNarrower z s t es fs M → ListNarrower z s t es (nothing ∷ fs) (second M)
    second_narrower R = record { after = R.after; bits = bits }
      where
        bits : (j k : ℕ) → Matched (second M) j k → (i : ℕ) → i < data_bits z → (b : Bool) → RunMay z t (nothing ∷ fs) k i b → RunMay z s es j i b
        bits j zero p i h b y = absurd p
        bits j (suc k) p i h b y = R.bits j k p i h b y

-- R1 to R11, computed.
use mathlib.Core.Path.{refl}
use Rattle.semantics.specs.Rulings.{Rulings}

pub rulings_mean : Rulings
rulings_mean = record {
  r1 = refl;
  r2 = refl;
  r3 = refl;
  r4 = refl;
  r5 = refl;
  r6 = refl;
  r7 = refl;
  r8 = refl;
  r9 = refl;
  r10 = refl;
  r10-held = refl;
  r11 = refl;
  r11_not = refl;
}

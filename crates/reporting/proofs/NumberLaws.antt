-- Laws of numbers as text: the kit's text of a signed number is `signed_text` of its bits, and is no longer than 21 bytes.
use mathlib.Core.Path.{◌≡◌, refl, sym, ap, ◌∙◌}
use mathlib.Core.List.{[], ◌∷◌}
use mathlib.Core.Logic.{⊎_elim}
use Prim.Native.Nat.{ℕ, suc, ◌+◌, ◌-◌, ◌^◌, ◌≤◌, ◌<◌}
use native.Mathlib.Omega.{arith}
use lib.ListN.{length, length-append}
use borrow.Author.Tests.{lt-ltb, le-ltb}
use mir.Syntax.{w64}
use lib.IntN.{ℤ}
use Rattle.std.specs.Int.{cast_signed, cast_unsigned}
use Rattle.std.specs.Prelude.{FitsSigned}
use Rattle.std.proofs.Math.Facts.{Fits-of_z}
use Rattle.std.proofs.lemmas.Int.{to_z-of_z}
use Rattle.std.specs.Fmt.{signed_decimal}
use Rattle.std.specs.Prelude.{decimal}
use Rattle.std.proofs.lemmas.Fmt.{length-decimal-le}
use Rattle.wire.proofs.EncodingLaws.{Two}
use Rattle.std.proofs.lemmas.Bool.{cases_lt as side}
use Rattle.reporting.specs.Numbers.{signed_text, number_text}

module _ (v : ℕ) where
  signed_low : v < 2 ^ 63 → signed_text v ≡ decimal v
  unfolding signed_text
  signed_low h = rw (lt-ltb v (2 ^ 63) h)

  signed_high : 2 ^ 63 ≤ v → signed_text v ≡ 45 ∷ decimal (2 ^ 64 - v)
  unfolding signed_text
  signed_high h = rw (le-ltb v (2 ^ 63) h)

  pub signed_bits : v < 2 ^ 64 → signed_decimal (cast_signed w64 v) ≡ signed_text v
  signed_bits h =
      ⊎_elim
      (λ (l : v < 2 ^ 63). rw (lt-ltb v (2 ^ 63) l) (sym (signed_low l)))
      (λ (l : 2 ^ 63 ≤ v). rw (le-ltb v (2 ^ 63) l) (ap (λ (n : ℕ). 45 ∷ decimal n) (let e : suc (2 ^ 64 - suc v) ≡ 2 ^ 64 - v = omega arith in e) ∙ sym (signed_high l)))
      (side v (2 ^ 63))

  pub signed_length : v < 2 ^ 64 → length (signed_text v) ≤ 21
  signed_length h =
      ⊎_elim
      (λ (l : v < 2 ^ 63). omega (arith, ap length (signed_low l), length-decimal-le 20 v (omega arith) (omega arith) h))
      (λ (l : 2 ^ 63 ≤ v). omega (arith, ap length (signed_high l), length-decimal-le 20 (2 ^ 64 - v) (omega arith) (omega arith) (omega arith)))
      (side v (2 ^ 63))

  pub number_is : (end : ℕ) → Two (number_text v end) (signed_text v) (end ∷ [])
  unfolding number_text
  number_is end = record { is = refl }

  -- Of a number below 10^j that has no sign.
  pub number_short : (end j : ℕ) → v < 10 ^ suc j → v < 2 ^ 63 → length (number_text v end) ≤ j + 2
  unfolding number_text
  number_short end j few l =
      omega (arith, length-append (signed_text v) (end ∷ []), ap length (signed_low l), length-decimal-le (suc j) v (omega arith) few (omega arith))

-- The same of a signed number, by its bits.
module _ (z : ℤ) (fits : FitsSigned w64 z) where
  small : cast_unsigned w64 z < 2 ^ 64
  small = (Fits-of_z fits).fits

  pub signed_is : signed_decimal z ≡ signed_text (cast_unsigned w64 z)
  signed_is = ap signed_decimal (sym (to_z-of_z w64 z fits)) ∙ signed_bits (cast_unsigned w64 z) small

  pub signed_is_short : length (signed_text (cast_unsigned w64 z)) ≤ 21
  signed_is_short = signed_length (cast_unsigned w64 z) small

-- What `hex` writes is read back, whichever digits have the values of its glyphs: the two definitions agree.
use mathlib.Core.Path.{◌≡◌, refl, ap, ap₂, ◌∙◌}
use mathlib.Core.List.{List, [], ◌∷◌}
use mathlib.Core.Logic.{⊎_elim}
use Prim.Native.Nat.{ℕ, ◌+◌, ◌*◌, ◌/◌, ◌%◌, ◌<◌, ◌≤◌}
use native.Mathlib.Omega.{arith}
use borrow.Author.Tests.{lt-ltb, le-ltb}
use Rattle.std.specs.Prelude.{Option, Some}
use Rattle.console.specs.Input.{digit_of, byte_then, pairs_of}
use Rattle.console.specs.Output.{hex_digit_ascii, hex_text}
use Rattle.std.proofs.lemmas.Bool.{cases_lt as side}

pub digit_figure : (b d : ℕ) → b ≡ 48 + d → d < 10 → digit_of b ≡ Some d
unfolding digit_of
digit_figure b d e h = rw (le-ltb b 48 (omega arith), lt-ltb b 58 (omega arith)) (ap Some (omega arith))

pub digit_letter : (b d : ℕ) → b ≡ 87 + d → 10 ≤ d → d < 16 → digit_of b ≡ Some d
unfolding digit_of
digit_letter b d e l h =
    rw (le-ltb b 48 (omega arith), le-ltb b 58 (omega arith), le-ltb b 97 (omega arith), lt-ltb b 103 (omega arith)) (ap Some (omega arith))

pub digit_glyph : (d : ℕ) → d < 16 → digit_of (hex_digit_ascii d) ≡ Some d
digit_glyph d h =
    ⊎_elim
    (λ (l : d < 10). rw (lt-ltb d 10 l) (digit_figure (48 + d) d refl l))
    (λ (l : 10 ≤ d). rw (le-ltb d 10 l) (digit_letter (87 + d) d refl l h))
    (side d 10)

abbrev pub AllBytes : List ℕ → Type 0
AllBytes [] = Unit
AllBytes (b ∷ l) = (b < 256) × AllBytes l

-- Any digits whose values are those of the glyphs read it back.
pub pairs_there_and_back : (value : ℕ → Option ℕ) → ((d : ℕ) → d < 16 → value (hex_digit_ascii d) ≡ Some d) → (l : List ℕ) → AllBytes l → pairs_of value (hex_text l) ≡ Some l
unfolding pairs_of hex_text
pairs_there_and_back value glyph [] h = refl
pairs_there_and_back value glyph (b ∷ l) h =
    let b256 : b < 256 = h.0 in
    let whole : b / 16 * 16 + b % 16 ≡ b = omega arith in
    ap₂ (λ (x y : Option ℕ). byte_then x y (pairs_of value (hex_text l))) (glyph (b / 16) (omega arith)) (glyph (b % 16) (omega arith))
    ∙ ap (byte_then (Some (b / 16)) (Some (b % 16))) (pairs_there_and_back value glyph l h.1)
    ∙ ap (λ (x : ℕ). Some (x ∷ l)) whole

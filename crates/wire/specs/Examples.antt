-- Document 01's marked examples, established from the definitions by one check over a list of them. Each crate adds its own.
use Rattle.std.specs.Prelude.{◌≡◌, refl, List, [], ◌∷◌, Bool, true, false, ◌&&◌, ℕ, eqb, length}
use Rattle.wire.specs.Varints.{varint_bytes}

-- An example: its number in document 01 (5 for E5), and whether the definitions say what it says.
pub record Example : Type 0 where
  pub number : ℕ
  pub holds : Bool

abbrev pub same_bytes : List ℕ → List ℕ → Bool
same_bytes [] [] = true
same_bytes [] (y ∷ ys) = false
same_bytes (x ∷ xs) [] = false
same_bytes (x ∷ xs) (y ∷ ys) = eqb x y && same_bytes xs ys

abbrev pub all_hold : List Example → Bool
all_hold [] = true
all_hold (e ∷ es) = e.holds && all_hold es

-- E5 gap 65634 is `e28004`. E6 gap 127 takes 1 byte, 128 takes 2. A gap is a varint of width 5.
abbrev pub varint_examples : List Example
varint_examples =
    record { number = 5; holds = same_bytes (varint_bytes 5 65634) (0xe2 ∷ 0x80 ∷ 0x04 ∷ []) }
    ∷ record { number = 6; holds = eqb (length (varint_bytes 5 127)) 1 && eqb (length (varint_bytes 5 128)) 2 }
    ∷ []

pub varint_examples_hold : all_hold varint_examples ≡ true
unfolding varint_bytes
varint_examples_hold = refl

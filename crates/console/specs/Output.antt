-- What a program says, and the text of an answer.
use Rattle.std.specs.Prelude.{◌≡◌, List, [], ◌∷◌, ◌++◌, Bool, cond, ℕ, ◌+◌, ◌/◌, ◌%◌, ltb, eqb, length, take, drop}
use Prim.Native.Char.{code}
use Prim.Native.String.{String, [] as empty, ◌∷◌ as ◌then◌}
use Rattle.std.specs.Counts.{IsPrefixLen}
use Rattle.std.specs.List.{list_all}
use Rattle.console.specs.declared.output.Said.{Said}
use Rattle.console.specs.declared.output.Said.TheVariants.{Out, Err}

-- The bytes of a text in ASCII: the code of each character.
abbrev pub ascii : String → List ℕ
ascii empty = []
ascii (character then text) = code character ∷ ascii text

-- What a program says: a text for standard output, or a message for standard error.
pub data Saying : Type 0 where
  out : List ℕ → Saying
  err : List ℕ → Saying

-- How many bytes it has.
abbrev pub size_of : Said → ℕ
size_of (Out n) = n
size_of (Err n) = n

-- What is said by the bytes at the front of the slice that is lent with it.
abbrev pub saying_of : Said → List ℕ → Saying
saying_of (Out n) text = out (take n text)
saying_of (Err n) text = err (take n text)

-- This is said at the front of `after`, and the rest of the slice is as it was.
pub record SaidPost (w : Saying) (before : List ℕ) (r : Said) (after : List ℕ) : Type 0 where
  pub says : saying_of r after ≡ w
  pub rest : drop (size_of r) after ≡ drop (size_of r) before
  pub counts : IsPrefixLen (size_of r) after

abbrev pub all_are : ℕ → List ℕ → Bool
all_are b = list_all (λ x. eqb x b)

-- The ASCII code of a digit below 16: `0` to `9`, then `a` to `f`.
abbrev pub hex_digit_ascii : ℕ → ℕ
hex_digit_ascii d = cond (ltb d 10) (48 + d) (87 + d)

-- Bytes as lowercase hexadecimal, the higher digit first.
unfoldable pub hex_text : List ℕ → List ℕ
hex_text [] = []
hex_text (b ∷ l) = hex_digit_ascii (b / 16) ∷ hex_digit_ascii (b % 16) ∷ hex_text l

-- The text stands at the front of `after`, and the rest is as it was.
pub record HexPost (bytes out : List ℕ) (r : ℕ) (after : List ℕ) : Type 0 where
  pub text : take r after ≡ hex_text bytes
  pub rest : drop r after ≡ drop r out
  pub counts : IsPrefixLen r after

-- What is left to write of a text when a piece has come behind what was left. Where 1,024 bytes have no room for both, the first is written; and so is a piece for which
-- they never have.
abbrev pub unwritten : List ℕ → List ℕ → List ℕ
unwritten before piece = cond (ltb 1024 (length piece)) [] (cond (ltb 1024 (length before + length piece)) piece (before ++ piece))

-- The lines of a text, and the state that a line spells.
use Rattle.std.specs.Prelude.{List, [], ◌∷◌, cond, ℕ, eqb, Option, Some, None}
use Rattle.console.specs.Input.{pairs_of}
use Rattle.exports.specs.Base64.{base64_of}
use Rattle.exports.specs.Hexadecimal.{any_digit_of}

-- A byte in front of the first line.
abbrev pub on_first : ℕ → List (List ℕ) → List (List ℕ)
on_first b [] = (b ∷ []) ∷ []
on_first b (line ∷ lines) = (b ∷ line) ∷ lines

-- A newline, 10, ends a line. Behind the last one there is no line, unless bytes follow.
unfoldable pub lines_of : List ℕ → List (List ℕ)
lines_of [] = []
lines_of (b ∷ l) = cond (eqb b 10) ([] ∷ lines_of l) (on_first b (lines_of l))

-- A line without the carriage return, 13, that may stand at its end.
unfoldable pub trimmed : List ℕ → List ℕ
trimmed [] = []
trimmed (b ∷ []) = cond (eqb b 13) [] (b ∷ [])
trimmed (b ∷ c ∷ l) = b ∷ trimmed (c ∷ l)

abbrev pub or_else : Option (List ℕ) → Option (List ℕ) → Option (List ℕ)
or_else None other = other
or_else (Some s) other = Some s

-- A word is hexadecimal where it can be, else base64.
unfoldable pub state_of : List ℕ → Option (List ℕ)
state_of word = or_else (pairs_of any_digit_of word) (base64_of word)

-- What a line holds: nothing where it is empty, a state, or what is neither hexadecimal nor base64.
pub data Held : Type 0 where
  nothing : Held
  state : List ℕ → Held
  other : Held

abbrev pub held_by : Option (List ℕ) → Held
held_by None = other
held_by (Some s) = state s

abbrev pub held : List ℕ → Held
held [] = nothing
held (b ∷ word) = held_by (state_of (b ∷ word))

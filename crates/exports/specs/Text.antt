-- States as lines.
use Rattle.std.specs.Prelude.{List, [], ◌∷◌, ◌++◌, ℕ}
use Rattle.console.specs.Output.{hex_text}

-- A state's bytes as lowercase hexadecimal, and a newline, 10.
abbrev pub line_of : List ℕ → List ℕ
line_of s = hex_text s ++ 10 ∷ []

-- A line for each state: what `unpack` prints.
unfoldable pub text_of : List (List ℕ) → List ℕ
text_of [] = []
text_of (s ∷ states) = hex_text s ++ 10 ∷ text_of states

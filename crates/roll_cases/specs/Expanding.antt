-- The bytes that a line of `roll_cases` stands for: words with a blank between them, each a byte string in hexadecimal, or one with a star and a number
-- behind it, which stands there so many times.
use Rattle.std.specs.Prelude.{◌≡◌, List, [], ◌∷◌, cond, ℕ, zero, suc, ◌+◌, ◌<◌, eqb, Option, Some, None, length, take, drop}
use Rattle.std.specs.Counts.{IsPrefixLen}
use Rattle.console.specs.Input.{up_to, decimal_of, below64, onto, hex_of}

-- Two byte strings, one behind the other.
abbrev pub joined : Option (List ℕ) → Option (List ℕ) → Option (List ℕ)
joined None y = None
joined (Some l) y = onto l y

-- A byte string n times.
unfoldable pub times_of : ℕ → Option (List ℕ) → Option (List ℕ)
times_of zero x = Some []
times_of (suc n) x = joined x (times_of n x)

-- How often: once where nothing is left of the word, else the number behind the star.
abbrev pub times : List ℕ → Option ℕ
times [] = Some 1
times (star ∷ l) = below64 (decimal_of l)

abbrev pub times_by : Option ℕ → Option (List ℕ) → Option (List ℕ)
times_by None x = None
times_by (Some n) x = times_of n x

-- A word: what stands before the star, 42, as often as is said behind it.
unfoldable pub word_bytes : List ℕ → Option (List ℕ)
word_bytes w = times_by (times (drop (up_to 42 w) w)) (hex_of (take (up_to 42 w) w))

-- The words of a line from the first one on. A blank, 32, ends a word. The first argument bounds their number: a line's length suffices.
unfoldable pub words_bytes : ℕ → List ℕ → Option (List ℕ)
words_bytes zero l = Some []
words_bytes (suc n) l = cond (eqb (length l) 0) (Some []) (joined (word_bytes (take (up_to 32 l) l)) (words_bytes n (drop (up_to 32 l + 1) l)))

abbrev pub line_bytes : List ℕ → Option (List ℕ)
line_bytes line = words_bytes (length line) line

-- The front that is counted is `done` and these bytes behind it; or there are none, or together they are too many for the buffer.
abbrev pub Expands : List ℕ → Option (List ℕ) → List ℕ → Option ℕ → List ℕ → Type 0
Expands done x out (Some n) after = (onto done x ≡ Some (take n after)) × IsPrefixLen n after
Expands done x out None after = (l : List ℕ) → onto done x ≡ Some l → length out < length l

abbrev pub LinePost : List ℕ → List ℕ → Option ℕ → List ℕ → Type 0
LinePost line out r after = Expands [] (line_bytes line) out r after

-- What packing the lines of a text comes to.
use Rattle.std.specs.Prelude.{◌≡◌, List, [], ◌∷◌, ◌++◌, Bool, true, false, cond, ℕ, ◌+◌, ◌≤◌, leb, Result, Ok, Err, length}
use Rattle.std.proofs.lemmas.List.Edits.{sets}
use Rattle.batch.specs.Packing.{packed, RecordPost}
use Rattle.exports.specs.declared.packing.Place.{Place}
use Rattle.exports.specs.declared.packing.PackError.{PackError}
use Rattle.exports.specs.declared.packing.PackError.TheVariants.{BadLine, TooLong}
use Rattle.exports.specs.Lines.{Held, nothing, state, other, held, trimmed, lines_of}

-- How packing ends: with the last line; or with the number of the first line that spells no state, or whose record does not fit.
pub data Stop : Type 0 where
  finished : Stop
  bad : ℕ → Stop
  long : ℕ → Stop

-- The states of the lines before that, in order, and how it ends.
pub record Packing : Type 0 where
  pub states : List (List ℕ)
  pub stop : Stop

abbrev pub stops : Stop → Packing
stops s = record { states = []; stop = s }

abbrev pub after : List (List ℕ) → Packing → Packing
after done x = record { states = done ++ x.states; stop = x.stop }

-- Line n, where the batch so far has `end` bytes and may have `room`. A record is 8 bytes and its state. Empty lines are skipped.
abbrev pub line_then : ℕ → ℕ → ℕ → Held → (ℕ → Packing) → Packing
line_then room n end nothing rest = rest end
line_then room n end (state s) rest = cond (leb (end + 8 + length s) room) (after (s ∷ []) (rest (end + 8 + length s))) (stops (long n))
line_then room n end other rest = stops (bad n)

-- Lines that have n others before them.
unfoldable pub packing : ℕ → ℕ → ℕ → List (List ℕ) → Packing
packing room n end [] = stops finished
packing room n end (line ∷ lines) = line_then room (n + 1) end (held (trimmed line)) (λ e. packing room (n + 1) e lines)

-- A batch of no states has 4 bytes.
abbrev pub packing_of : ℕ → List ℕ → Packing
packing_of room text = packing room 0 4 (lines_of text)

-- The record of line n put behind the batch so far, which ends at `end` and whose chain ends at `last`; or there is no room for it.
abbrev pub FitPost : Bool → ℕ → List ℕ → Place → List ℕ → Result Place PackError → List ℕ → Type 0
FitPost true n out p s r now = (r ≡ Ok (record { last = p.end; end = p.end + 8 + length s })) × RecordPost out p.last p.end s (p.end + 8 + length s) now
FitPost false n out p s r now = (r ≡ Err (TooLong n)) × (now ≡ out)

abbrev pub LinePost : Held → ℕ → List ℕ → Place → Result Place PackError → List ℕ → Type 0
LinePost nothing n out p r now = (r ≡ Ok p) × (now ≡ out)
LinePost (state s) n out p r now = FitPost (leb (p.end + 8 + length s) (length out)) n out p s r now
LinePost other n out p r now = (r ≡ Err (BadLine n)) × (now ≡ out)

-- The batch so far lies inside, and there is room to read the word into.
pub record LinePre (word spare out : List ℕ) (p : Place) : Type 0 where
  pub behind : p.last + 4 ≤ p.end
  pub inside : p.end ≤ length out
  pub room : length word ≤ length spare

-- The answer: the length of the batch, or the number of a line.
abbrev pub packed_by : Stop → ℕ → Result ℕ PackError
packed_by finished n = Ok n
packed_by (bad line) n = Err (BadLine line)
packed_by (long line) n = Err (TooLong line)

abbrev pub packed_of : Packing → Result ℕ PackError
packed_of x = packed_by x.stop (length (packed x.states))

-- The batch of the states stands at the front of `out`, also where a line is refused, and the bytes past it are untouched. What is free is named in `free`:
-- `spare` holds anything, as many bytes as it had.
pub record PackedPost (x : Packing) (spare out : List ℕ) (r : Result ℕ PackError) (left now : List ℕ) : Type 0 where
  pub answer : r ≡ packed_of x
  pub output : now ≡ sets out 0 (packed x.states)
  pub inside : length (packed x.states) ≤ length out
  pub free : length left ≡ length spare

pub record PackPre (text spare out : List ℕ) : Type 0 where
  pub spare_room : length text ≤ length spare
  pub room : 4 ≤ length out

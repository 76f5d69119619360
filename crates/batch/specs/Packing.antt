-- A batch made of states: the chain in their order, the records one after the other (document 01, "The batch").
use Rattle.std.specs.Prelude.{List, [], ◌∷◌, ◌++◌, ℕ, ◌+◌, ◌/◌, ◌%◌, ◌≤◌, length}
use Rattle.std.proofs.lemmas.List.Edits.{sets}
use Rattle.wire.specs.Varints.{PutPost}

-- "Indices and lengths are 4 bytes, low first."
unfoldable pub word_bytes : ℕ → List ℕ
word_bytes v = v % 256 ∷ v / 256 % 256 ∷ v / 65536 % 256 ∷ v / 16777216 % 256 ∷ []

-- "A record is next index, length, state."
unfoldable pub record_bytes : ℕ → List ℕ → List ℕ
record_bytes next s = word_bytes next ++ (word_bytes (length s) ++ s)

-- The index of the first of these states' records, which is to stand at `at`. "Zero ends the chain."
abbrev pub index_of : ℕ → List (List ℕ) → ℕ
index_of at [] = 0
index_of at (s ∷ states) = at

-- The records of these states from the byte `at` on.
unfoldable pub records_at : ℕ → List (List ℕ) → List ℕ
records_at at [] = []
records_at at (s ∷ states) = record_bytes (index_of (at + 8 + length s) states) s ++ records_at (at + 8 + length s) states

-- "Bytes 0 to 3 hold the first index."
unfoldable pub packed : List (List ℕ) → List ℕ
packed states = word_bytes (index_of 4 states) ++ records_at 4 states

-- There is room for one more record at the end, behind the index that is to lead to it.
pub record RecordPre (last end size room : ℕ) : Type 0 where
  pub behind : last + 4 ≤ end
  pub room_for : end + 8 + size ≤ room

-- One more record at the end, which is the last of the chain: the index at `last` leads to it, and everything else is as it was.
pub record RecordPost (out : List ℕ) (last end : ℕ) (s : List ℕ) (r : ℕ) (after : List ℕ) : Type 0 where
  pub put : PutPost (sets out last (word_bytes end)) end (record_bytes 0 s) r after

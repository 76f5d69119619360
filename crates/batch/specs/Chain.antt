-- A batch of states: records chained by a next index (document 01, "The batch").
use Rattle.std.specs.Prelude.{⊤, Result, Ok, Err, List, [], ◌∷◌, map, Bool, cond, ◌&&◌, ℕ, zero, suc, ◌+◌, ◌*◌, ltb, leb, eqb, length, get_or, take, drop}
use Rattle.batch.specs.declared.chain.ChainError.{ChainError}
use Rattle.batch.specs.declared.chain.ChainError.TheVariants.{NoBatch, Broken}

-- "Indices and lengths are 4 bytes, low first; an index is a byte offset."
unfoldable pub word_at : List ℕ → ℕ → ℕ
word_at b i = get_or b i 0 + 256 * get_or b (i + 1) 0 + 65536 * get_or b (i + 2) 0 + 16777216 * get_or b (i + 3) 0

-- "A record is next index, length, state."
abbrev pub next_at : List ℕ → ℕ → ℕ
next_at b i = word_at b i

abbrev pub length_at : List ℕ → ℕ → ℕ
length_at b i = word_at b (i + 4)

abbrev pub state_at : List ℕ → ℕ → List ℕ
state_at b i = take (length_at b i) (drop (i + 8) b)

-- "25: is each index at least 4 and above the one before, and the record inside?"
unfoldable pub is_record : List ℕ → ℕ → ℕ → Bool
is_record b before i = leb 4 i && ltb before i && leb (i + 8 + length_at b i) (length b)

-- The number of each question.
abbrev pub error_number : ChainError → ℕ
error_number NoBatch = 24
error_number Broken = 25

-- "Ordinal (0 for 24)": that of the record that could not be had, the one after the `records` that could.
abbrev pub ordinal_of : ChainError → ℕ → ℕ
ordinal_of NoBatch records = 0
ordinal_of Broken records = records + 1

-- The indices of a chain's records in order, and how it ends: "zero ends the chain", or else a question does.
pub record Chain : Type 0 where
  pub indices : List ℕ
  pub ending : Result ⊤ ChainError

abbrev pub ends : Result ⊤ ChainError → Chain
ends r = record { indices = []; ending = r }

abbrev pub onto : ℕ → Chain → Chain
onto i c = record { indices = i ∷ c.indices; ending = c.ending }

-- The chain from an index on, where `before` is the index of the record before it. The first argument bounds the number of records: each index is
-- above the one before and inside, so a batch's length suffices.
unfoldable pub chain_from : ℕ → List ℕ → ℕ → ℕ → Chain
chain_from zero b before i = ends (Ok tt)
chain_from (suc n) b before i =
    cond (eqb i 0) (ends (Ok tt)) (cond (is_record b before i) (onto i (chain_from n b i (next_at b i))) (ends (Err Broken)))

-- "24: at most 65,536 bytes, at least 4?"
abbrev pub is_batch : List ℕ → Bool
is_batch b = leb 4 (length b) && leb (length b) 65536

-- "Bytes 0 to 3 hold the first index."
unfoldable pub chain_of : List ℕ → Chain
chain_of b = cond (is_batch b) (chain_from (length b) b 0 (word_at b 0)) (ends (Err NoBatch))

-- The states of the records, in the order of the chain.
abbrev pub states_of : List ℕ → List (List ℕ)
states_of b = map (state_at b) (chain_of b).indices

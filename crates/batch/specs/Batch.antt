-- What rolling up a batch answers and leaves: a run of demand 3's theorem over its states in order, the answer to each, and the closing numbers.
use Rattle.std.specs.Prelude.{◌≡◌, ⊤, Result, Ok, Err, List, [], ◌∷◌, cond, ℕ, leb, length, take, drop}
use Rattle.rollup.specs.Accumulator.{Mem}
use Rattle.rollup.specs.Taking.{Free}
use Rattle.rollup.specs.Calls.{Call, added, Run}
use Rattle.batch.specs.declared.chain.ChainError.{ChainError}
use Rattle.batch.specs.declared.records.Ending.{Ending}
use Rattle.batch.specs.declared.records.Ending.TheVariants.{Refused, Full}
use Rattle.batch.specs.declared.records.Rolled.{Rolled}
use Rattle.batch.specs.Chain.{Chain, chain_of, states_of}

-- The calls that add these states, with `room` cells of `scratch` each, and get these answers, after others. The latest stands first.
unfoldable pub added_all : ℕ → List (List ℕ) → List ℕ → List Call → List Call
added_all room [] answers calls = calls
added_all room (s ∷ states) [] calls = calls
added_all room (s ∷ states) (n ∷ answers) calls = added_all room states answers (added room s n ∷ calls)

-- A question that ends the chain, as the reason why not all was added.
abbrev pub refusing : Result ⊤ ChainError → Result ⊤ Ending
refusing (Ok x) = Ok x
refusing (Err e) = Err (Refused e)

-- How a chain ends for a caller that lends `cells` cells for the answers, one a record: `Full` where it has more records than that.
abbrev pub ending_for : Chain → ℕ → Result ⊤ Ending
ending_for c cells = cond (leb (length c.indices) cells) (refusing c.ending) (Err Full)

-- The states that have a cell, in order.
abbrev pub states_for : List ℕ → ℕ → List (List ℕ)
states_for batch cells = take cells (states_of batch)

-- From a fresh head and the memory as it was lent, each state was added in order, and its answer put into its cell. `old` is what the cells for the
-- answers held: those past the records are untouched. What is free is named in `free`.
pub record RolledPost (batch : List ℕ) (first : Mem) (room : ℕ) (r : Rolled) (m : Mem) (old answers : List ℕ) : Type 0 where
  pub records : r.records ≡ length (states_for batch (length old))
  pub ending : r.ending ≡ ending_for (chain_of batch) (length old)
  pub run : Run first (added_all room (states_for batch (length old)) (take r.records answers) []) r.head m
  pub untouched : drop r.records answers ≡ drop r.records old
  pub cells : length answers ≡ length old
  pub free : Free first m

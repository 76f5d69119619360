-- What the records of a batch give, one after the other.
use Rattle.std.specs.Prelude.{◌≡◌, Option, Some, None, Result, Ok, Err, List, cond, ℕ, suc, ◌+◌, is_ok, length}
use Rattle.batch.specs.declared.chain.ChainError.{ChainError}
use Rattle.batch.specs.declared.chain.Record.{Record}
use Rattle.batch.specs.declared.chain.Records.{Records}
use Rattle.batch.specs.Chain.{state_at, Chain, ends, onto, chain_from, chain_of}

-- The chain that is still to come. One turn more than the batch has bytes is never used up.
abbrev pub left : Records → Chain
left s = chain_from (suc (length s.batch.now)) s.batch.now s.before s.next

-- Its records, and the error that may end it.
abbrev pub items_in : Chain → ℕ
items_in c = length c.indices + cond (is_ok c.ending) 0 1

-- The first record and its state, with the others left; or the error that ends the chain; or nothing, at its end.
abbrev pub GivesRecord : Records → Option (Result Record ChainError) → Records → Type 0
GivesRecord s None t = (left s ≡ ends (Ok tt)) × (left t ≡ ends (Ok tt))
GivesRecord s (Some (Ok r)) t = (left s ≡ onto r.index (left t)) × (r.state.now ≡ state_at s.batch.now r.index) × (t.batch.now ≡ s.batch.now)
GivesRecord s (Some (Err e)) t = (left s ≡ ends (Err e)) × (left t ≡ ends (Ok tt))

-- At first the whole chain is left; or bytes are no batch.
abbrev pub BeginsPost : List ℕ → Result Records ChainError → Type 0
BeginsPost b (Ok s) = (chain_of b ≡ left s) × (s.batch.now ≡ b)
BeginsPost b (Err e) = chain_of b ≡ ends (Err e)

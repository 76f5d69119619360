-- What walking a batch finds: where each record of the chain stands, and how the chain ends.
use Rattle.std.specs.Prelude.{◌≡◌, List, ℕ, ◌≤◌, length, take, drop}
use Rattle.batch.specs.declared.unpacking.Walked.{Walked}
use Rattle.batch.specs.Chain.{chain_of}

-- The index of each record stands in its cell, in the order of the chain, which ends as the batch's does. `old` is what the cells held: those past
-- the records are untouched.
pub record WalkedPost (batch old : List ℕ) (r : Walked) (indices : List ℕ) : Type 0 where
  pub records : r.records ≡ length (chain_of batch).indices
  pub ending : r.ending ≡ (chain_of batch).ending
  pub front : take r.records indices ≡ (chain_of batch).indices
  pub inside : r.records ≤ length indices
  pub untouched : drop r.records indices ≡ drop r.records old

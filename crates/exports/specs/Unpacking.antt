-- What unpacking a batch answers and leaves.
use Rattle.std.specs.Prelude.{◌≡◌, ⊤, List, [], cond, ℕ, leb, Result, Ok, Err, length}
use Rattle.std.proofs.lemmas.List.Edits.{sets}
use Rattle.batch.specs.declared.chain.ChainError.{ChainError}
use Rattle.batch.specs.Chain.{chain_of, states_of}
use Rattle.exports.specs.declared.unpacking.UnpackError.{UnpackError}
use Rattle.exports.specs.declared.unpacking.UnpackError.TheVariants.{Broken, TooLong}
use Rattle.exports.specs.Text.{text_of}

-- The lines of the states, in the order of the chain.
abbrev pub batch_text : List ℕ → List ℕ
batch_text batch = text_of (states_of batch)

-- A chain that is broken after so many records, and what follows where it is not.
abbrev pub unless_broken : Result ⊤ ChainError → ℕ → Result ℕ UnpackError → Result ℕ UnpackError
unless_broken (Ok x) records next = next
unless_broken (Err e) records next = Err (Broken records e)

-- How many records a broken chain has, and what breaks it. Else the length of the text, where `room` bytes hold it.
unfoldable pub unpacked_of : ℕ → List ℕ → Result ℕ UnpackError
unpacked_of room batch =
    unless_broken (chain_of batch).ending (length (chain_of batch).indices)
    (cond (leb (length (batch_text batch)) room) (Ok (length (batch_text batch))) (Err TooLong))

-- What is put: the text, where there is one, else nothing.
abbrev pub put_of : Result ℕ UnpackError → List ℕ → List ℕ
put_of (Ok n) text = text
put_of (Err e) text = []

-- What is put stands at the front of what was `out`, and the rest is untouched.
pub record UnpackedPost (batch out : List ℕ) (r : Result ℕ UnpackError) (now : List ℕ) : Type 0 where
  pub answer : r ≡ unpacked_of (length out) batch
  pub output : now ≡ sets out 0 (put_of r (batch_text batch))

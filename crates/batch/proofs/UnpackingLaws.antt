-- Walking a batch: the indices so far, and what is left of the chain, are the chain's. One law for a turn, and one for each way that the walk ends; and the state
-- of a record.
use Prim.Native.Nat.{ℕ, suc, ◌+◌, ◌-◌, ◌<◌, ◌≤◌}
use mathlib.Core.Path.{◌≡◌, sym, ap, ◌∙◌, subst}
use mathlib.Core.List.{List, [], ◌∷◌, ◌++◌}
use native.Mathlib.Omega.{arith}
use lib.ListN.{length, take, drop, set, length-set, length-take, length-drop, drop_of_length-le}
use lib.Seq.{take-suc-set, length-take-le, take-nil, take_all}
use Rattle.lists.proofs.MergingLaws.{rest_all}
use Rattle.std.specs.Prelude.{⊤, Result}
use Rattle.batch.specs.declared.chain.ChainError.{ChainError}
use Rattle.batch.specs.Chain.{length_at, state_at, Chain, ends, onto}
use Rattle.batch.specs.Unpacking.{WalkedPost}
use Rattle.batch.proofs.ChainLaws.{Walk, walk_all, walk_ending, walk_few, walk_turn, untouched_next}

pub record Walking (batch old : List ℕ) (rest : Chain) (k : ℕ) (indices : List ℕ) : Type 0 where
  pub walk : Walk batch (take k indices) rest
  pub inside : k ≤ length indices
  pub untouched : drop k indices ≡ drop k old

module _ {batch old : List ℕ} {rest : Chain} {k : ℕ} {indices : List ℕ} (g : Walking batch old rest k indices) where
  -- While a record is left, so is a cell.
  pub room_left : {i : ℕ} {next : Chain} → 65536 ≤ length indices → rest ≡ onto i next → k < length indices
  room_left room e = omega (arith, walk_few g.walk e, length-take-le k indices g.inside)

  pub walked : (r : Result ⊤ ChainError) → rest ≡ ends r → WalkedPost batch old (record { records = k; ending = r }) indices
  walked r e =
      let all = walk_all g.walk e in
      record {
        records = sym (ap length all ∙ length-take-le k indices g.inside);
        ending = sym (walk_ending g.walk e);
        front = sym all;
        inside = g.inside;
        untouched = g.untouched;
      }

  pub walking_turn : {i : ℕ} {next : Chain} → 65536 ≤ length indices → rest ≡ onto i next → Walking batch old next (k + 1) (set indices k i)
  walking_turn {i} {next} room e =
      let more = room_left room e in
      let put : take (k + 1) (set indices k i) ≡ take k indices ++ i ∷ [] =
      ap (λ (j : ℕ). take j (set indices k i)) (let z : k + 1 ≡ suc k = omega arith in z) ∙ take-suc-set indices k i more in
      record {
        walk = subst (λ (l : List ℕ). Walk batch l next) (sym put) (walk_turn g.walk e);
        inside = omega (arith, length-set indices k i);
        untouched = untouched_next indices old k i g.untouched;
      }

-- ---- a state

-- Past the batch there is none.
pub state_none : (b : List ℕ) (at : ℕ) → length b ≤ at + 8 → take 0 b ≡ state_at b at
state_none b at h = sym (ap (take (length_at b at)) (drop_of_length-le b h) ∙ take-nil (length_at b at))

-- One of a length past the end is the rest of the batch.
pub state_cut : (b : List ℕ) (at n : ℕ) → length b - (at + 8) < n → n ≡ length_at b at → take (length b - (at + 8)) (drop (at + 8) b) ≡ state_at b at
state_cut b at n h e =
    rest_all b (at + 8) ∙ sym (take_all (length_at b at) (drop (at + 8) b) (omega (arith, length-drop (at + 8) b)))

pub state_short : (b s : List ℕ) (at : ℕ) → s ≡ state_at b at → length s ≤ length b
state_short b s at e =
    omega (arith, ap (λ (l : List ℕ). length l) e, length-take (length_at b at) (drop (at + 8) b), length-drop (at + 8) b)

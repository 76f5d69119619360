-- The premises of the theorems of specs/Calls can be met by calls that differ: two states in either order, a roll-up in longer memory. A premise that held only where
-- nothing differs would make a theorem say nothing. The second is computed.
use Rattle.std.proofs.Common.{◌≡◌, ℕ, List, [], ◌∷◌, refl, ⊎_elim}
use mathlib.Core.List.Memᴰ
use mathlib.Core.List.Permᴰ
use mathlib.Core.List.{Memᴰ}
use Rattle.wire.specs.Varints.{varint_bytes}
use Rattle.wire.specs.State.{State}
use Rattle.lists.specs.Values.{mark, marked, plain_end, valid}
use Rattle.lists.specs.Sorting.{ascends}
use Rattle.lists.specs.Lists.{all_valid, written_from, written}
use Rattle.rollup.specs.declared.accumulator.Form.TheVariants.{Sparse, Dense}
use Rattle.rollup.specs.Accumulator.{mem, counts_fit, lists_fit, fits}
use Rattle.rollup.specs.Taking.{list_head}
use Rattle.rollup.specs.Calls.{added, Moved, SameStates, accepted, state_in, states}

-- Two accepted states, in either order.
turned : (room : ℕ) (x y : List ℕ) (st : State) → Memᴰ st (states (added room x 0 ∷ added room y 0 ∷ [])) → Memᴰ st (states (added room y 0 ∷ added room x 0 ∷ []))
unfolding accepted
turned room x y st i =
    ⊎_elim (λ (e : st ≡ state_in x). Memᴰ.tail (Memᴰ.head e))
    (λ (j : Memᴰ st (state_in y ∷ [])).
    ⊎_elim (λ (e : st ≡ state_in y). Memᴰ.head e) (λ (k : Memᴰ st []). absurd (Memᴰ.not-nil k)) (Memᴰ.cases_cons j)) (Memᴰ.cases_cons i)

pub same_turned : (room : ℕ) (x y : List ℕ) → SameStates (added room x 0 ∷ added room y 0 ∷ []) (added room y 0 ∷ added room x 0 ∷ [])
same_turned room x y = record { there = turned room x y; back = turned room y x }

-- The list 1 of (4,10) in one cell, and the same in two, with a register byte and a cell for values that wait.
pub moved_longer : Moved (list_head 15 0 1 4 10 1 1 1 0) (mem [] (1 ∷ []) []) (mem (7 ∷ []) (1 ∷ 9 ∷ []) (5 ∷ []))
unfolding fits counts_fit lists_fit all_valid valid plain_end mark marked ascends written written_from varint_bytes
moved_longer = record { kept = refl; waiting = Permᴰ.nil; registers = λ (e : Sparse ≡ Dense). cc; fit = refl }

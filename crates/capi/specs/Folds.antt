-- Many states in one slice, with their ends: what `filmoed_fold` promises.
use Rattle.std.specs.Prelude.{◌≡◌, List, [], ◌∷◌, Bool, true, false, cond, ◌&&◌, ℕ, ◌-◌, ◌≤◌, leb, length, take, drop}
use Rattle.rollup.specs.declared.accumulator.Accumulator.{Accumulator}
use Rattle.rollup.specs.Accumulator.{Mem, fits}
use Rattle.rollup.specs.Taking.{Free}
use Rattle.rollup.specs.Calls.{Call, Steps, Run}
use Rattle.batch.specs.Batch.{added_all}
use Rattle.capi.specs.Heads.{is_head, head_in, with_head}

-- ---- the states

-- The bytes from one end to the next.
abbrev pub between : List ℕ → ℕ → ℕ → List ℕ
between bytes start end = take (end - start) (drop start bytes)

unfoldable pub splits : List ℕ → ℕ → List ℕ → List (List ℕ)
splits bytes start [] = []
splits bytes start (end ∷ ends) = between bytes start end ∷ splits bytes end ends

-- ---- the fold's own arguments

-- Whether ends, from `start` on, are of states in so many bytes: no end is before the last one, and none is past the bytes. Bytes behind the last end belong to no
-- state.
unfoldable pub ends_fit : (size start : ℕ) → List ℕ → Bool
ends_fit size start [] = leb start size
ends_fit size start (end ∷ ends) = leb start end && ends_fit size end ends

-- And a cell for the answer to each state.
abbrev pub fold_fits : (bytes ends answers : List ℕ) → Bool
fold_fits bytes ends answers = leb (length ends) (length answers) && ends_fit (length bytes) 0 ends

-- ---- from any head on

-- The states were added in order, each by what `add` promises, from the head and the memory as they were. Cells past the answers are untouched; what else is
-- free is so for each call.
pub record FoldedPost (a : Accumulator) (m : Mem) (room : ℕ) (bytes ends answers : List ℕ) (r : Accumulator) (n : Mem) (left : List ℕ) : Type 0 where
  pub steps : Steps a m (added_all room (splits bytes 0 ends) left []) r n
  pub untouched : drop (length ends) left ≡ drop (length ends) answers
  pub cells : length left ≡ length answers
  pub free : Free m n

-- So whatever run led to the head and the memory goes on with these calls.
unfoldable pub FoldGoesOn : Type 0
FoldGoesOn =
    (a : Accumulator) (m : Mem) (room : ℕ) (bytes ends answers : List ℕ) (r : Accumulator) (n : Mem) (left : List ℕ)
    → FoldedPost a m room bytes ends answers r n left → (first : Mem) (calls : List Call) → Run first calls a m
    → Run first (added_all room (splits bytes 0 ends) left calls) r n

-- Question 1 once, and then the states. The answer is to that question; where it is no, nothing is changed.
pub record FoldPost (a : Accumulator) (m : Mem) (room : ℕ) (bytes ends answers : List ℕ) (answer : ℕ) (r : Accumulator) (n : Mem) (left : List ℕ) : Type 0 where
  pub answer_is : answer ≡ cond (fits a m) 0 1
  pub refused : fits a m ≡ false → (r ≡ a) × (n ≡ m) × (left ≡ answers)
  pub folded : fits a m ≡ true → FoldedPost a m room bytes ends answers r n left

-- What the loop asks: a head that fits, ends that do, and a cell for each answer.
pub record FoldedPre (a : Accumulator) (m : Mem) (bytes ends answers : List ℕ) : Type 0 where
  pub fit : fits a m ≡ true
  pub cut : ends_fit (length bytes) 0 ends ≡ true
  pub room : length ends ≤ length answers

-- ---- of a head that is a row

-- The answer to the whole. Its own arguments are judged first: 100 is a number of this library, which no paper uses. Then question 1, once for all states.
abbrev pub fold_answer : (row : List ℕ) (m : Mem) (bytes ends answers : List ℕ) → ℕ
fold_answer row m bytes ends answers = cond (fold_fits bytes ends answers) (cond (is_head row && fits (head_in row) m) 0 1) 100

-- The states were added, and the head that they led to stands in the row.
pub record FoldedRow (row : List ℕ) (m : Mem) (room : ℕ) (bytes ends answers after : List ℕ) (n : Mem) (left : List ℕ) : Type 0 where
  pub head : Accumulator
  pub post : FoldedPost (head_in row) m room bytes ends answers head n left
  pub row_left : after ≡ with_head head row

-- A fold that is refused as a whole changes nothing but `scratch`, which is free after every call.
pub record FoldRowPost (row : List ℕ) (m : Mem) (room : ℕ) (bytes ends answers : List ℕ) (answer : ℕ) (after : List ℕ) (n : Mem) (left : List ℕ) : Type 0 where
  pub answer_is : answer ≡ fold_answer row m bytes ends answers
  pub refused : (answer ≡ 0 → ⊥) → (after ≡ row) × (n ≡ m) × (left ≡ answers)
  pub folded : answer ≡ 0 → FoldedRow row m room bytes ends answers after n left

-- What `read_header` (questions 2 to 14) and `judge` (2 to 16) answer, and what the stages after them require.
use Rattle.std.specs.Prelude.{◌≡◌, ℕ, Result, Ok, Err, ◌<◌, ◌≤◌, true, List, [], length}
use Rattle.wire.specs.Reading.{Read, got, refused}
use Rattle.wire.specs.State.{State, HllInside}
use Rattle.lists.specs.Values.{Pair}
use Rattle.rollup.specs.declared.accumulator.Accumulator.{Accumulator}
use Rattle.wire.specs.declared.view.StateView.{StateView}
use Rattle.rollup.specs.declared.refusal.Refusal.{Refusal}
use Rattle.rollup.specs.Refusals.{number}
use Rattle.rollup.specs.Accumulator.{Mem, fits}
use Rattle.rollup.specs.Header.{viewed, list_of, read_header}
use Rattle.rollup.specs.Adding.{judge_answer, judge}

-- ---- the answer

-- What an answer says of the bytes that were judged; and its positions lie inside these bytes.
abbrev pub judged_means : Result StateView Refusal → Read State
judged_means (Ok v) = got (viewed v) []
judged_means (Err e) = refused (number e)

abbrev pub JudgedInside : List ℕ → Result StateView Refusal → Type 0
JudgedInside s (Ok v) = HllInside s v.fields.hll
JudgedInside s (Err e) = Unit

pub record Judges (x : Read State) (s : List ℕ) (r : Result StateView Refusal) : Type 0 where
  pub answer : judged_means r ≡ x
  pub inside : JudgedInside s r

abbrev pub HeaderPost : List ℕ → Result StateView Refusal → Type 0
HeaderPost s r = Judges (read_header s) s r

abbrev pub JudgePost : Accumulator → List ℕ → Result StateView Refusal → Type 0
JudgePost a s r = Judges (judge a s) s r

-- ---- what the stages after them require

-- Question 17: the head fits, the questions before were answered with yes, and the list has less than 2^31 bytes. So no sum of a head's counts and this length wraps.
pub record RoomPre (a : Accumulator) (m : Mem) (st : State) : Type 0 where
  pub fit : fits a m ≡ true
  pub judged : judge_answer a st ≡ 0
  pub short : length (list_of st) ≤ 2147483647

-- Questions 18 to 20: where the state has a list, its precisions are a pair that a list can have; and there is a cell for each byte of the list.
pub record ListedPre (st : State) (room : ℕ) : Type 0 where
  pub pair : 0 < length (list_of st) → Pair st.hll.precision st.hll.sparse_precision
  pub space : length (list_of st) ≤ room

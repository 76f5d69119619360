-- Header rules: document 01, module 5, and the questions that are asked of a state by itself, 2 to 14.
use Rattle.std.specs.Prelude.{ℕ, ◌^◌, Bool, true, false, cond, not, ◌&&◌, ◌||◌, List, [], length, ◌==◌, nat_le}
use Rattle.wire.specs.Reading.{Read, got, refused, and_then}
use Rattle.wire.specs.State.{State, bytes_or_none, read_state}
-- The state that a view of it shows: the header is judged of one.
pub use Rattle.wire.specs.View.{viewed}
use Rattle.lists.specs.Values.{largest_rank}
use Rattle.lists.specs.Registers.{largest}
use Rattle.rollup.specs.Accumulator.{normal_range, sparse_range}

-- A number where the answer is no, and what follows where it is yes.
abbrev pub ask : Bool → ℕ → ℕ → ℕ
ask true n next = next
ask false n next = n

-- The bytes of the two data fields; "data, if not empty": present and not empty.
abbrev pub data_of : State → List ℕ
data_of st = bytes_or_none st.hll.«data»

abbrev pub list_of : State → List ℕ
list_of st = bytes_or_none st.hll.sparse_data

abbrev pub is_empty : List ℕ → Bool
is_empty l = length l == 0

-- "Value types 0, 7, 8, 11 allow masks 15, 2, 1, 12."
abbrev pub is_value_type : ℕ → Bool
is_value_type t = t == 0 || t == 7 || t == 8 || t == 11

abbrev pub mask_of : ℕ → ℕ
mask_of t = cond (t == 0) 15 (cond (t == 7) 2 (cond (t == 8) 1 12))

-- The answer to some questions, and to those that follow: the first number that is not 0.
abbrev pub first_no : ℕ → ℕ → ℕ
first_no n next = ask (n == 0) n next

-- The type and the version of a state.
abbrev pub state_type : ℕ
state_type = 112

abbrev pub state_version : ℕ
state_version = 2

-- "7: Type 112? 8: Version 2? 9: Value type 0, 7, 8 or 11?" Here and below, 0 where all are yes.
unfoldable pub kind_answer : State → ℕ
kind_answer st = ask (st.aggregator_type == state_type) 7 (ask (st.encoding_version == state_version) 8 (ask (is_value_type st.value_type) 9 0))

-- "10: Is s not 0 where sparse data is not empty?"
abbrev pub list_has_precision : State → Bool
list_has_precision st = is_empty (list_of st) || not (st.hll.sparse_precision == 0)

-- "12: Has data, if not empty, 2^p bytes?"
abbrev pub data_has_length : State → Bool
data_has_length st = is_empty (data_of st) || length (data_of st) == 2 ^ st.hll.precision

-- "13: Where sparse data is not empty, or data is empty and s not 0: s in p..25?"
abbrev pub needs_pair : State → Bool
needs_pair st = not (is_empty (list_of st)) || (is_empty (data_of st) && not (st.hll.sparse_precision == 0))

abbrev pub pair_in_range : State → Bool
pair_in_range st = not (needs_pair st) || sparse_range st.hll.precision st.hll.sparse_precision

-- Questions 7 to 13. "11: p in 4..24?"
unfoldable pub structure_answer : State → ℕ
structure_answer st =
    first_no (kind_answer st)
    (ask (list_has_precision st) 10 (ask (normal_range st.hll.precision) 11 (ask (data_has_length st) 12 (ask (pair_in_range st) 13 0))))

-- "14: No register above 65−p?"
abbrev pub registers_in_range : State → Bool
registers_in_range st = nat_le (largest (data_of st)) (largest_rank st.hll.precision)

-- Questions 7 to 14, of a state that was read.
unfoldable pub header_answer : State → ℕ
header_answer st = first_no (structure_answer st) (ask (registers_in_range st) 14 0)

-- A state that was read, where the answer is 0.
abbrev pub passing : ℕ → State → Read State
passing n st = cond (n == 0) (got st []) (refused n)

-- Questions 2 to 14, of the bytes alone. "2: Has the state at most 2,147,483,647 bytes?"
unfoldable pub read_header : List ℕ → Read State
read_header bytes = cond (nat_le (length bytes) 2147483647) (and_then (read_state bytes) (λ st nothing. passing (header_answer st) st)) (refused 2)

-- What the functions of the writer require and promise, besides `WritePost`.
use Rattle.std.specs.Prelude.{◌≡◌, ℕ, ◌+◌, ◌≤◌, true, false, List, ◌++◌, length, drop, nat_lt}
use Rattle.std.proofs.Math.Option.{none, some}
use Rattle.wire.specs.declared.state.Fields.{Fields}
use Rattle.wire.specs.Encoding.{Output, encode_step}
use Rattle.lists.specs.declared.values.Sparse.{Sparse as Encoding}
use Rattle.lists.specs.declared.merging.Merged.{Merged}
use Rattle.lists.specs.Sorting.{ascends, sort_of}
use Rattle.lists.specs.Lists.{all_valid, written, encode_list, MergePost}
use Rattle.rollup.specs.declared.accumulator.Accumulator.{Accumulator}
use Rattle.rollup.specs.Accumulator.{limit}
use Rattle.rollup.specs.Header.{state_type, state_version}
use Rattle.rollup.specs.Writing.{state_with, unless}

-- What was to be written stands in front of what was there.
pub record Writes (x : Output) (out : List ℕ) (answer len : ℕ) (after : List ℕ) : Type 0 where
  pub answered : answer ≡ x.answer
  pub counted : len ≡ length x.bytes
  pub output : after ≡ x.bytes ++ drop (length x.bytes) out

-- The fields of a state of the head's numbers, without registers and without a list.
abbrev pub head_fields : Accumulator → ℕ → Fields
head_fields a size =
    record {
      aggregator_type = state_type;
      num_values = a.num_values;
      encoding_version = state_version;
      value_type = a.value_type;
      hll =
          record {
            sparse_size = size;
            precision = a.precision;
            sparse_precision = a.sparse_precision;
            data_present = false;
            sparse_data_present = false;
            «data» = record { start = 0; len = 0 };
            sparse_data = record { start = 0; len = 0 };
          };
    }

-- With so many register bytes as field 5, and with so many bytes of a list as field 6. They are the first that are lent; where other bytes follow the head
-- (`encode_head`), only how many they are counts.
abbrev pub with_data : Fields → ℕ → Fields
with_data f n = record f { hll = record f.hll { data_present = true; «data» = record f.hll.«data» { len = n } } }

abbrev pub with_sparse_data : Fields → ℕ → Fields
with_sparse_data f n = record f { hll = record f.hll { sparse_data_present = true; sparse_data = record f.hll.sparse_data { len = n } } }

-- Questions 22 and 23, of a list and its sparse size.
unfoldable pub list_outcome : Accumulator → ℕ → List ℕ → ℕ → Output
list_outcome a size l space =
    unless (nat_lt (written l) (limit a.precision)) 22 (encode_step (state_with a size none (some (encode_list l))) space)

-- A list in order, and how many bytes it takes.
pub record ValuesPre (a : Accumulator) (l : List ℕ) (bytes : ℕ) : Type 0 where
  pub low : 4 ≤ a.precision
  pub high : a.precision ≤ 24
  pub order : ascends l ≡ true
  pub count : bytes ≡ written l

-- The values kept, and those that wait, can be merged into `scratch`.
pub record FlushPre (enc : Encoding) (kept waiting scratch : List ℕ) : Type 0 where
  pub order : ascends kept ≡ true
  pub kept_valid : all_valid enc.normal_precision enc.sparse_precision kept ≡ true
  pub waiting_valid : all_valid enc.normal_precision enc.sparse_precision waiting ≡ true
  pub room : length kept + length waiting ≤ length scratch

-- The merge stands in `scratch`, and what waits is in order.
pub record FlushPost (p s : ℕ) (kept before : List ℕ) (r : Merged) (waiting scratch : List ℕ) : Type 0 where
  pub merge : MergePost p s kept before r scratch
  pub ordered : waiting ≡ sort_of before

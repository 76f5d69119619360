-- Writing a state (document 01, module 2): "The writer's order is 1, 2, 3 unless 1, 4 unless 0, 112; inside 2, 3, 4 unless 0, then 5 and 6
-- if present."
use Rattle.std.specs.Prelude.{◌≡◌, List, [], ◌++◌, cond, ℕ, ◌+◌, ◌-◌, ◌^◌, ◌<◌, ltb, leb, eqb, length, drop, Result, Ok, Err}
use Rattle.std.proofs.Math.Option.{Option, none, some}
use Rattle.wire.specs.declared.encoding.EncodeError.{EncodeError}
use Rattle.wire.specs.declared.encoding.EncodeError.TheVariants.{OutputTooShort}
use Rattle.wire.specs.Varints.{varint_bytes}
use Rattle.wire.specs.Fields.{tag, VARINT, LEN}
use Rattle.wire.specs.State.{HllState, State}

-- A tag and the number behind it.
unfoldable pub pair : ℕ → ℕ → List ℕ
pair t v = varint_bytes 10 t ++ varint_bytes 10 v

-- A field of wire type VARINT: its tag and its value.
abbrev pub number_field : ℕ → ℕ → List ℕ
number_field field v = pair (tag field VARINT) v

-- "A 32-bit field … is written sign-extended to 64" (module 1).
abbrev pub sign_extended : ℕ → ℕ
sign_extended v = cond (ltb v (2 ^ 31)) v (v + (2 ^ 64 - 2 ^ 32))

-- A 32-bit field that is left out at one value.
unfoldable pub int32_unless : ℕ → ℕ → ℕ → List ℕ
int32_unless omitted field v = cond (eqb v omitted) [] (number_field field (sign_extended v))

-- A field of wire type LEN: its tag, its length and its bytes.
abbrev pub length_prefix : ℕ → ℕ → List ℕ
length_prefix field n = pair (tag field LEN) n

unfoldable pub bytes_field : ℕ → Option (List ℕ) → List ℕ
bytes_field field none = []
bytes_field field (some d) = length_prefix field (length d) ++ d

unfoldable pub hll_numbers : HllState → List ℕ
hll_numbers h = int32_unless 0 2 h.sparse_size ++ (int32_unless 0 3 h.precision ++ int32_unless 0 4 h.sparse_precision)

unfoldable pub hll_bytes : HllState → List ℕ
hll_bytes h = hll_numbers h ++ (bytes_field 5 h.«data» ++ bytes_field 6 h.sparse_data)

unfoldable pub outer_numbers : State → List ℕ
outer_numbers st =
    number_field 1 (sign_extended st.aggregator_type)
    ++ (number_field 2 st.num_values ++ (int32_unless 1 3 st.encoding_version ++ int32_unless 0 4 st.value_type))

unfoldable pub encode_of : State → List ℕ
encode_of st = outer_numbers st ++ bytes_field 112 (some (hll_bytes st.hll))

-- The same up to the bytes of the sparse data, of which there are n: the part before the tail that another writer fills.
unfoldable pub hll_head : HllState → ℕ → List ℕ
hll_head h n = hll_numbers h ++ (bytes_field 5 h.«data» ++ length_prefix 6 n)

unfoldable pub head_of : State → ℕ → List ℕ
head_of st n = outer_numbers st ++ (length_prefix 112 (length (hll_head st.hll n) + n) ++ hll_head st.hll n)

-- What the whole and the head have in common: everything before field 6, where the nested message has n bytes.
unfoldable pub hll_start : HllState → List ℕ
hll_start h = hll_numbers h ++ bytes_field 5 h.«data»

unfoldable pub start_of : State → ℕ → List ℕ
start_of st n = outer_numbers st ++ (length_prefix 112 n ++ hll_start st.hll)

-- Fields that fit their widths.
pub record FitsWidths (st : State) : Type 0 where
  pub aggregator_type : st.aggregator_type < 2 ^ 32
  pub num_values : st.num_values < 2 ^ 64
  pub encoding_version : st.encoding_version < 2 ^ 32
  pub value_type : st.value_type < 2 ^ 32
  pub sparse_size : st.hll.sparse_size < 2 ^ 32
  pub precision : st.hll.precision < 2 ^ 32
  pub sparse_precision : st.hll.sparse_precision < 2 ^ 32
  pub nested : length (hll_bytes st.hll) < 2 ^ 64

-- Two states with the same fields, one by one.
pub record SameFields (st st' : State) : Type 0 where
  pub aggregator_type : st'.aggregator_type ≡ st.aggregator_type
  pub num_values : st'.num_values ≡ st.num_values
  pub encoding_version : st'.encoding_version ≡ st.encoding_version
  pub value_type : st'.value_type ≡ st.value_type
  pub sparse_size : st'.hll.sparse_size ≡ st.hll.sparse_size
  pub precision : st'.hll.precision ≡ st.hll.precision
  pub sparse_precision : st'.hll.sparse_precision ≡ st.hll.sparse_precision
  pub «data» : st'.hll.«data» ≡ st.hll.«data»
  pub sparse_data : st'.hll.sparse_data ≡ st.hll.sparse_data

-- What `encode` is to answer and write: document 01's question 23, "does the output fit?", and the bytes.
pub record Output : Type 0 where
  pub answer : ℕ
  pub bytes : List ℕ

unfoldable pub encode_step : State → ℕ → Output
encode_step st room = cond (leb (length (encode_of st)) room) (record { answer = 0; bytes = encode_of st }) (record { answer = 23; bytes = [] })

-- Document 01's number of the error, and of each answer; and how many bytes were written.
abbrev pub encode_error_number : EncodeError → ℕ
encode_error_number OutputTooShort = 23

abbrev pub encoded_number : Result ℕ EncodeError → ℕ
encoded_number (Ok n) = 0
encoded_number (Err e) = encode_error_number e

abbrev pub encoded_length : Result ℕ EncodeError → ℕ
encoded_length (Ok n) = n
encoded_length (Err e) = 0

pub record EncodePost (st : State) (out : List ℕ) (r : Result ℕ EncodeError) (after : List ℕ) : Type 0 where
  pub answer : encoded_number r ≡ (encode_step st (length out)).answer
  pub written : encoded_length r ≡ length (encode_step st (length out)).bytes
  pub output : after ≡ (encode_step st (length out)).bytes ++ drop (length (encode_step st (length out)).bytes) out

-- A state: the message AggregatorStateProto, with the nested message HyperLogLogPlusUniqueStateProto in its field 112 (document 01, module 2).
use Rattle.std.specs.Prelude.{◌≡◌, List, [], Bool, true, false, cond, ◌||◌, ℕ, ◌+◌, ◌%◌, ◌^◌, ◌≤◌, eqb, length, take, drop, Result, IfOk}
use Rattle.std.specs.Prelude as lent
use Rattle.std.specs.Borrow.{Bor}
use Rattle.std.proofs.Math.Option.{Option, none, some}
use Rattle.wire.specs.declared.read_error.ReadError.{ReadError}
use Rattle.wire.specs.declared.varint.Cursor.{Cursor}
use Rattle.wire.specs.declared.fields.Part.{Part}
use Rattle.wire.specs.declared.state.HllFields.{HllFields}
use Rattle.wire.specs.declared.state.Fields.{Fields}
use Rattle.wire.specs.Reading.{Read, got, and_then, answer_of, ReadPost}
use Rattle.wire.specs.Varints.{varint64}
use Rattle.wire.specs.Fields.{tag, VARINT, LEN, delimited_of, skip_of, field_of, message_of}

-- The nested message. A number is the unsigned one of the same bits; "an absent data field and an empty one are told apart".
pub record HllState : Type 0 where
  pub sparse_size : ℕ
  pub precision : ℕ
  pub sparse_precision : ℕ
  pub «data» : Option (List ℕ)
  pub sparse_data : Option (List ℕ)

pub record State : Type 0 where
  pub aggregator_type : ℕ
  pub num_values : ℕ
  pub encoding_version : ℕ
  pub value_type : ℕ
  pub hll : HllState

-- "Absent: type 112, version 1, the rest 0."
abbrev pub empty_hll : HllState
empty_hll = record { sparse_size = 0; precision = 0; sparse_precision = 0; «data» = none; sparse_data = none }

abbrev pub empty_state : State
empty_state = record { aggregator_type = 112; num_values = 0; encoding_version = 1; value_type = 0; hll = empty_hll }

-- "A 32-bit field takes the low 32 of them, signed" (module 1): as the unsigned number of the same bits.
abbrev pub int32 : ℕ → ℕ
int32 v = v % 2 ^ 32

-- "Nested: 2 sparse size, 3 p, 4 s", each a varint. "A later field replaces an earlier one."
abbrev pub is_hll_number : ℕ → Bool
is_hll_number t = eqb t (tag 2 VARINT) || eqb t (tag 3 VARINT) || eqb t (tag 4 VARINT)

abbrev pub with_hll_number : ℕ → ℕ → HllState → HllState
with_hll_number t v h =
    cond (eqb t (tag 2 VARINT))
    (record { sparse_size = int32 v; precision = h.precision; sparse_precision = h.sparse_precision; «data» = h.«data»; sparse_data = h.sparse_data })
    (cond (eqb t (tag 3 VARINT))
    (record { sparse_size = h.sparse_size; precision = int32 v; sparse_precision = h.sparse_precision; «data» = h.«data»; sparse_data = h.sparse_data })
    (record { sparse_size = h.sparse_size; precision = h.precision; sparse_precision = int32 v; «data» = h.«data»; sparse_data = h.sparse_data }))

-- "5 data, 6 sparse data", of wire type 2.
abbrev pub is_hll_bytes : ℕ → Bool
is_hll_bytes t = eqb t (tag 5 LEN) || eqb t (tag 6 LEN)

abbrev pub with_hll_bytes : ℕ → List ℕ → HllState → HllState
with_hll_bytes t d h =
    cond (eqb t (tag 5 LEN))
    (record { sparse_size = h.sparse_size; precision = h.precision; sparse_precision = h.sparse_precision; «data» = some d; sparse_data = h.sparse_data })
    (record { sparse_size = h.sparse_size; precision = h.precision; sparse_precision = h.sparse_precision; «data» = h.«data»; sparse_data = some d })

-- The value of a nested field. "Any other tag is skipped."
abbrev pub hll_number_of : ℕ → List ℕ → HllState → Read HllState
hll_number_of t l h = and_then (varint64 l) (λ v rest. got (with_hll_number t v h) rest)

abbrev pub hll_bytes_of : ℕ → List ℕ → HllState → Read HllState
hll_bytes_of t l h = and_then (delimited_of l) (λ d rest. got (with_hll_bytes t d h) rest)

abbrev pub other_of : {A : Type 0} → ℕ → List ℕ → A → Read A
other_of t l a = and_then (skip_of t l) (λ u rest. got a rest)

unfoldable pub hll_field : ℕ → List ℕ → HllState → Read HllState
hll_field t l h = cond (is_hll_number t) (hll_number_of t l h) (cond (is_hll_bytes t) (hll_bytes_of t l h) (other_of t l h))

-- "A second nested message [replaces] only the fields it holds": reading one starts from what was read before.
unfoldable pub read_hll : List ℕ → HllState → Read HllState
read_hll l h = message_of hll_field l h

-- "Outer fields: 1 type, 2 value count, 3 encoding version, 4 value type", each a varint.
abbrev pub is_number : ℕ → Bool
is_number t = eqb t (tag 1 VARINT) || eqb t (tag 2 VARINT) || eqb t (tag 3 VARINT) || eqb t (tag 4 VARINT)

abbrev pub with_number : ℕ → ℕ → State → State
with_number t v st =
    cond (eqb t (tag 1 VARINT))
    (record { aggregator_type = int32 v; num_values = st.num_values; encoding_version = st.encoding_version; value_type = st.value_type; hll = st.hll })
    (cond (eqb t (tag 2 VARINT))
    (record { aggregator_type = st.aggregator_type; num_values = v; encoding_version = st.encoding_version; value_type = st.value_type; hll = st.hll })
    (cond (eqb t (tag 3 VARINT))
    (record { aggregator_type = st.aggregator_type; num_values = st.num_values; encoding_version = int32 v; value_type = st.value_type; hll = st.hll })
    (record { aggregator_type = st.aggregator_type; num_values = st.num_values; encoding_version = st.encoding_version; value_type = int32 v; hll = st.hll })))

abbrev pub with_hll : HllState → State → State
with_hll h st =
    record { aggregator_type = st.aggregator_type; num_values = st.num_values; encoding_version = st.encoding_version; value_type = st.value_type; hll = h }

-- The value of an outer field; "112 the nested message" is whole before it is opened.
abbrev pub number_of : ℕ → List ℕ → State → Read State
number_of t l st = and_then (varint64 l) (λ v rest. got (with_number t v st) rest)

abbrev pub nested_of : List ℕ → State → Read State
nested_of l st = and_then (delimited_of l) (λ m rest. and_then (read_hll m st.hll) (λ h nothing. got (with_hll h st) rest))

unfoldable pub outer_field : ℕ → List ℕ → State → Read State
outer_field t l st = cond (is_number t) (number_of t l st) (cond (eqb t (tag 112 LEN)) (nested_of l st) (other_of t l st))

-- Reading a whole state: what it says, with nothing left, or the first refusal in byte order.
unfoldable pub read_state : List ℕ → Read State
read_state s = message_of outer_field s empty_state

-- What the fields that `parse` answers say of the bytes that it read from: the numbers, and the bytes of a field that is present.
abbrev pub when_present : Bool → List ℕ → Option (List ℕ)
when_present true d = some d
when_present false d = none

abbrev pub part_of : List ℕ → Bool → Part → Option (List ℕ)
part_of s present p = when_present present (take p.len (drop p.start s))

abbrev pub hll_of : List ℕ → HllFields → HllState
hll_of s h =
    record {
      sparse_size = h.sparse_size;
      precision = h.precision;
      sparse_precision = h.sparse_precision;
      «data» = part_of s h.data_present h.«data»;
      sparse_data = part_of s h.sparse_data_present h.sparse_data;
    }

abbrev pub state_of : List ℕ → Fields → State
state_of s f =
    record {
      aggregator_type = f.aggregator_type;
      num_values = f.num_values;
      encoding_version = f.encoding_version;
      value_type = f.value_type;
      hll = hll_of s f.hll;
    }

-- A part lies inside the bytes, and where the field is absent it starts at 0 and has no bytes.
abbrev pub AbsentIsZero : Bool → ℕ → ℕ → Type 0
AbsentIsZero true start len = Unit
AbsentIsZero false start len = (start ≡ 0) × (len ≡ 0)

pub record PartInside (s : List ℕ) (present : Bool) (p : Part) : Type 0 where
  pub inside : p.start + p.len ≤ length s
  pub absent : AbsentIsZero present p.start p.len

pub record HllInside (s : List ℕ) (h : HllFields) : Type 0 where
  pub «data» : PartInside s h.data_present h.«data»
  pub sparse_data : PartInside s h.sparse_data_present h.sparse_data

-- `parse`: for every list of bytes the answer is the definition's, and the positions of its data fields lie inside the bytes. Free: at which of several places
-- that hold the same bytes a part starts, and where a present part of no bytes does.
pub record ParsePost (s : List ℕ) (r : Result Fields ReadError) : Type 0 where
  pub answer : answer_of (λ (f : Fields). got (state_of s f) []) r ≡ read_state s
  pub inside : IfOk r (λ (f : Fields). HllInside s f.hll)

-- One outer field, read at a position, where f was read before.
pub record StepPost (s : List ℕ) (at : ℕ) (f : Fields) (r : Result (Fields × Cursor) ReadError) : Type 0 where
  pub read : ReadPost (state_of s) 1 s at (λ (l : List ℕ). field_of outer_field l (state_of s f)) r
  pub inside : HllInside s f.hll → IfOk r (λ (p : Fields × Cursor). HllInside s p.0.hll)

-- m is the part of s that starts at `base`.
pub record Within (s : List ℕ) (base : ℕ) (m : List ℕ) : Type 0 where
  pub same : m ≡ take (length m) (drop base s)
  pub room : base + length m ≤ length s

-- One field of a nested message m, whatever the state's bytes are that it is a part of: the positions of its cursor are those of m, and the positions of its
-- data fields those of the state's bytes.
pub record HllStepPost (m : List ℕ) (base at : ℕ) (h : HllFields) (r : Result (HllFields × Cursor) ReadError) : Type 0 where
  pub answer : (s : List ℕ) → Within s base m
      → answer_of (λ (p : HllFields × Cursor). got (hll_of s p.0) (drop p.1.at m)) r ≡ field_of hll_field (drop at m) (hll_of s h)
  pub inside : (s : List ℕ) → Within s base m → HllInside s h → IfOk r (λ (p : HllFields × Cursor). HllInside s p.0)
  pub forward : IfOk r (λ (p : HllFields × Cursor). (at + 1 ≤ p.1.at) × (p.1.at ≤ length m))

pub record HllPost (m : List ℕ) (base : ℕ) (h : HllFields) (r : Result HllFields ReadError) : Type 0 where
  pub answer : (s : List ℕ) → Within s base m → answer_of (λ (g : HllFields). got (hll_of s g) []) r ≡ read_hll m (hll_of s h)
  pub inside : (s : List ℕ) → Within s base m → HllInside s h → IfOk r (λ (g : HllFields). HllInside s g)

-- A data field that is lent, as a state has it.
abbrev pub lent_field : lent.Option (Bor (List ℕ)) → Option (List ℕ)
lent_field (lent.Some d) = some d.now
lent_field lent.None = none

-- The bytes of a data field, none where it is absent: what `data` and `sparse_data` hand out.
abbrev pub bytes_or_none : Option (List ℕ) → List ℕ
bytes_or_none (some d) = d
bytes_or_none none = []

-- Sparse lists: reading, writing, merging (document 01, module 4; Heule, Nunkesser and Hall 2013, section 5.3.2, "difference encoding" and
-- "variable length encoding").
use Rattle.std.specs.Prelude.{◌≡◌, ℕ, zero, suc, ◌+◌, ◌-◌, ◌*◌, ◌/◌, ◌%◌, ◌^◌, ◌<◌, ◌≤◌, Bool, true, false, cond, not, ◌&&◌, ◌||◌, List, [], ◌∷◌, ◌++◌, length, take, drop, get_or, ◌==◌, nat_lt, Result, Ok, Err, IsOkAnd, IsErrAnd}
use Rattle.wire.specs.Reading.{Read, got, refused, and_then}
use Rattle.wire.specs.Varints.{varint_of, varint_bytes}
use Rattle.lists.specs.declared.decoding.DecodeError.{DecodeError}
use Rattle.lists.specs.declared.decoding.DecodeError.TheVariants.{TruncatedGap, GapTooLong, InvalidValue}
use Rattle.lists.specs.declared.merging.Merged.{Merged}
use Rattle.lists.specs.declared.values.Sparse.{Sparse}
use Rattle.lists.specs.Values.{mark, marked, marked_end, marked_rank_fits, valid, sparse_index}
use Rattle.lists.specs.Sorting.{ascends, sort_of}

-- ---- reading

-- A gap is a varint of at most five bytes with a value below 2^32. Document 01, 18: "Is each gap whole?" 19: "Has a fifth byte no bit of f0?"
abbrev pub gap_answer : Read ℕ → Read ℕ
gap_answer (got v l) = cond (nat_lt v (2 ^ 32)) (got v l) (refused 19)
gap_answer (refused n) = refused (cond (n == 3) 18 19)

unfoldable pub gap_of : List ℕ → Read ℕ
gap_of l = gap_answer (varint_of 5 l)

-- Document 01's number of a refusal.
abbrev pub decode_refusal : DecodeError → ℕ
decode_refusal TruncatedGap = 18
decode_refusal GapTooLong = 19
decode_refusal InvalidValue = 20

-- What an answer with a number and the position after it says of the bytes that it was read from.
abbrev pub read_means : List ℕ → Result (ℕ × ℕ) DecodeError → Read ℕ
read_means bytes (Ok (v, next)) = got v (drop next bytes)
read_means bytes (Err e) = refused (decode_refusal e)

-- The next position is further on, and no further than the end.
abbrev pub ReadInside : List ℕ → ℕ → Result (ℕ × ℕ) DecodeError → Type 0
ReadInside bytes at (Ok (v, next)) = (at < next) × (next ≤ length bytes)
ReadInside bytes at (Err e) = Unit

-- Reading a byte of a gap at a position: there is none past the end.
abbrev pub BytePost : List ℕ → ℕ → Result ℕ DecodeError → Type 0
BytePost bytes at (Ok b) = (at < length bytes) × (b ≡ get_or bytes at 0) × (b < 256)
BytePost bytes at (Err e) = (length bytes ≤ at) × (e ≡ TruncatedGap)

-- Reading a gap at a position: the answer is the definition's for the rest of the bytes.
pub record GapPost (bytes : List ℕ) (at : ℕ) (r : Result (ℕ × ℕ) DecodeError) : Type 0 where
  pub answer : read_means bytes r ≡ gap_of (drop at bytes)
  pub inside : ReadInside bytes at r

-- What is refused with 20 where it is read: a sum below the last one, "the low six bits [more than] 65−s where the mark bit is set", and with s = p "a marked value
-- with m = 0 …, the marked one where it is read" (document 02, U3). The mark bit alone decides here, whatever stands above it.
abbrev pub refused_here : ℕ → ℕ → ℕ → ℕ → Bool
refused_here p s last v = nat_lt v last || (marked p s v && not (marked_rank_fits p s v))

-- One value after `last`, and the bytes after its gap: "running sums wrap in u32". Where no bytes are left there is no gap (18).
unfoldable pub step_of : ℕ → ℕ → List ℕ → ℕ → Read ℕ
step_of p s l last = and_then (gap_of l) (λ gap rest. let v = (last + gap) % 2 ^ 32 in cond (refused_here p s last v) (refused 20) (got v rest))

-- "Bytes are varint gaps from 0." The first number bounds how many gaps there are: a gap has a byte or more.
abbrev pub before : ℕ → Read (List ℕ) → Read (List ℕ)
before v (got vs l) = got (v ∷ vs) l
before v (refused n) = refused n

unfoldable pub sums_of : ℕ → ℕ → ℕ → List ℕ → ℕ → Read (List ℕ)
sums_of p s zero l last = got [] l
sums_of p s (suc n) [] last = got [] []
sums_of p s (suc n) (b ∷ l) last =
    and_then (step_of p s (b ∷ l) last) (λ v rest. before v (sums_of p s n rest v))

-- One value after `last`, at a position.
pub record NextValuePost (p s : ℕ) (bytes : List ℕ) (at last : ℕ) (r : Result (ℕ × ℕ) DecodeError) : Type 0 where
  pub answer : read_means bytes r ≡ step_of p s (drop at bytes) last
  pub inside : ReadInside bytes at r

unfoldable pub all_valid : ℕ → ℕ → List ℕ → Bool
all_valid p s [] = true
all_valid p s (v ∷ l) = valid p s v && all_valid p s l

-- "At the end, every value valid?" With s = p also "plain ones at the end of the list" (document 02, U3).
unfoldable pub decode_of : ℕ → ℕ → List ℕ → Read (List ℕ)
decode_of p s l = and_then (sums_of p s (length l) l 0) (λ vs rest. cond (all_valid p s vs) (got vs rest) (refused 20))

-- Of the values of a list that was read two decide for all: the last one with the mark bit clear, and the last of all. Before there is one with the mark bit clear, a
-- value stands for it that is valid at every pair: the marked one of index 0 with m = 1.
abbrev pub no_plain : ℕ → ℕ → ℕ
no_plain p s = mark p s + 1

-- The last value with the mark bit clear, where v comes after `plain`.
abbrev pub later_plain : ℕ → ℕ → ℕ → ℕ → ℕ
later_plain p s plain v = cond (marked p s v) plain v

-- Of the last of all only the index is left to ask: its low six bits were looked at where it was read.
abbrev pub ends_valid : ℕ → ℕ → ℕ → ℕ → Bool
ends_valid p s plain last = valid p s plain && nat_lt last (marked_end p s)

-- The count and the values in the first cells, or the refusal's number.
abbrev pub Decodes : Read (List ℕ) → Result ℕ DecodeError → List ℕ → Type 0
Decodes (got vs l) r out = IsOkAnd r (λ n. (n ≡ length vs) × (take n out ≡ vs))
Decodes (refused n) r out = IsErrAnd r (λ e. decode_refusal e ≡ n)

-- The cells past the values of a list are as they were. Where a list is refused every cell is free: they hold anything, as many as before.
abbrev pub DecodeFree : Result ℕ DecodeError → List ℕ → List ℕ → Type 0
DecodeFree (Ok n) before after = drop n after ≡ drop n before
DecodeFree (Err e) before after = length after ≡ length before

-- What `decode_validated_into` answers and leaves.
pub record DecodePost (p s : ℕ) (bytes before : List ℕ) (r : Result ℕ DecodeError) (after : List ℕ) : Type 0 where
  pub answer : Decodes (decode_of p s bytes) r after
  pub free : DecodeFree r before after

-- ---- writing

-- The gaps of a list after the value `last`, each in as few bytes as it takes.
unfoldable pub encode_from : ℕ → List ℕ → List ℕ
encode_from last [] = []
encode_from last (v ∷ l) = varint_bytes 5 (v - last) ++ encode_from v l

unfoldable pub encode_list : List ℕ → List ℕ
encode_list l = encode_from 0 l

-- How many bytes that is.
unfoldable pub written_from : ℕ → List ℕ → ℕ
written_from last [] = 0
written_from last (v ∷ l) = length (varint_bytes 5 (v - last)) + written_from v l

unfoldable pub written : List ℕ → ℕ
written l = written_from 0 l

-- ---- merging

-- Values of one slot are told apart by their rank alone: of the marked values of one index the largest m counts, and a plain value is
-- a slot of its own.
unfoldable pub slot : ℕ → ℕ → ℕ → ℕ
slot p s v = cond (marked p s v) (v / 64 * 64) v

abbrev pub same_slot_first : ℕ → ℕ → ℕ → List ℕ → Bool
same_slot_first p s x [] = false
same_slot_first p s x (y ∷ l) = slot p s x == slot p s y

-- The last value of each slot, of a list in order.
unfoldable pub last_of_slots : ℕ → ℕ → List ℕ → List ℕ
last_of_slots p s [] = []
last_of_slots p s (x ∷ l) = cond (same_slot_first p s x l) (last_of_slots p s l) (x ∷ last_of_slots p s l)

-- The merge: the sort of both, with the last value of each slot. That it is as document 01 says is the statement of specs/MergeSays.
unfoldable pub merged : ℕ → ℕ → List ℕ → List ℕ → List ℕ
merged p s a b = last_of_slots p s (sort_of (a ++ b))

-- What a merge answers and leaves: the values in the first cells, how many they are, and "its byte count is the written length".
pub record MergePost (p s : ℕ) (a b : List ℕ) (r : Merged) (after : List ℕ) : Type 0 where
  pub count : r.len ≡ length (merged p s a b)
  pub bytes : r.bytes ≡ written (merged p s a b)
  pub values : take r.len after ≡ merged p s a b

-- No equal values and no two marked values of one index: what a merge leaves.
unfoldable pub distinct_slots : ℕ → ℕ → List ℕ → Bool
distinct_slots p s [] = true
distinct_slots p s (x ∷ l) = cond (same_slot_first p s x l) false (distinct_slots p s l)

-- Whether neighbours differ without their low d bits.
abbrev pub alike_first : ℕ → ℕ → List ℕ → Bool
alike_first d x [] = false
alike_first d x (y ∷ l) = x / 2 ^ d == y / 2 ^ d

unfoldable pub apart_by : ℕ → List ℕ → Bool
apart_by d [] = true
apart_by d (x ∷ l) = cond (alike_first d x l) false (apart_by d l)

-- ---- inserting

-- What a change of the first values of a list into b answers and leaves: a byte count that changes as the written length does, and the cells past b
-- as they were. One change drops no value and adds no more than two gaps.
pub record ChangePost (list : List ℕ) (len : ℕ) (b : List ℕ) (before : ℕ) (r : Merged) (after : List ℕ) : Type 0 where
  pub count : r.len ≡ length b
  pub bytes : r.bytes + written (take len list) ≡ before + written b
  pub values : take r.len after ≡ b
  pub past : drop r.len after ≡ drop r.len list
  pub more : len ≤ r.len
  pub few : r.bytes ≤ before + 10

-- What such a change asks: the byte count is that of the list or more, and can grow.
pub record ChangePre (list : List ℕ) (len bytes : ℕ) : Type 0 where
  pub inside : len ≤ length list
  pub least : written (take len list) ≤ bytes
  pub most : bytes + 10 < 2 ^ 64

pub record InsertOnePre (enc : Sparse) (list : List ℕ) (len bytes : ℕ) : Type 0 where
  pub room : len < length list
  pub rises : ascends (take len list) ≡ true
  pub distinct : distinct_slots enc.normal_precision enc.sparse_precision (take len list) ≡ true
  pub change : ChangePre list len bytes

-- What `insert_dedupe` asks. Neither validity nor an order of the incoming values is needed.
pub record InsertPre (enc : Sparse) (union : List ℕ) (len : ℕ) (incoming : List ℕ) (bytes : ℕ) : Type 0 where
  pub room : len + length incoming ≤ length union
  pub rises : ascends (take len union) ≡ true
  pub distinct : distinct_slots enc.normal_precision enc.sparse_precision (take len union) ≡ true
  pub least : written (take len union) ≤ bytes
  pub most : bytes + 5 * length incoming < 2 ^ 63

-- What `insert_dedupe` answers and leaves: the merge in the first cells, the cells past it as they were, and a byte count that changes as the
-- written length does.
pub record InsertPost (p s : ℕ) (union : List ℕ) (len : ℕ) (incoming : List ℕ) (before : ℕ) (r : Merged) (after : List ℕ) : Type 0 where
  pub count : r.len ≡ length (merged p s (take len union) incoming)
  pub bytes : r.bytes + written (take len union) ≡ before + written (merged p s (take len union) incoming)
  pub values : take r.len after ≡ merged p s (take len union) incoming
  pub past : drop r.len after ≡ drop r.len union

-- ---- distinct sparse indices

-- Whether a value has the sparse index of one in a list.
abbrev pub index_in : ℕ → ℕ → ℕ → List ℕ → Bool
index_in p s v [] = false
index_in p s v (w ∷ l) = sparse_index p s v == sparse_index p s w || index_in p s v l

-- How many different sparse indices a list has.
unfoldable pub distinct_indices : ℕ → ℕ → List ℕ → ℕ
distinct_indices p s [] = 0
distinct_indices p s (v ∷ l) = cond (index_in p s v l) (distinct_indices p s l) (1 + distinct_indices p s l)

-- What counting them in one walk asks.
pub record IndexPre (enc : Sparse) (l : List ℕ) : Type 0 where
  pub rises : ascends l ≡ true
  pub allowed : all_valid enc.normal_precision enc.sparse_precision l ≡ true
  pub distinct : distinct_slots enc.normal_precision enc.sparse_precision l ≡ true

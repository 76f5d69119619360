-- What the stages of taking in and of adding require and promise, file by file of the code, besides `Shows` and `AddPost`. Nothing here says what the roll-up does: that is in
-- specs/Taking and specs/Adding.
use Rattle.std.specs.Prelude.{◌≡◌, ℕ, Option, Some, None, ◌+◌, ◌*◌, ◌^◌, ◌<◌, ◌≤◌, min, Bool, true, false, List, [], length, take}
use Rattle.wire.specs.State.{State}
use Rattle.lists.specs.Values.{Pair, largest_rank}
use Rattle.lists.specs.Pairs.{NewPost}
use Rattle.lists.specs.Sorting.{ascends}
use Rattle.lists.specs.Lists.{all_valid, distinct_slots, written}
use Rattle.lists.specs.Registers.{register_bytes, registers_of, with_registers, lowered_in_place, largest}
use Rattle.lists.specs.declared.values.Sparse.{Sparse as Encoding}
use Rattle.lists.specs.Merging.{MergePre}
use Rattle.lists.specs.declared.merging.Merged.{Merged}
use Rattle.rollup.specs.declared.accumulator.Form.TheVariants.{Unstarted, Sparse, Dense}
use Rattle.rollup.specs.declared.accumulator.Accumulator.{Accumulator}
use Rattle.rollup.specs.declared.incoming.Incoming.{Incoming}
use Rattle.rollup.specs.Accumulator.{Mem, kept_of, max_pending, fits}
use Rattle.rollup.specs.Taking.{After, path_of, Shows}
use Rattle.rollup.specs.Adding.{state_numbers, accepted_after, wanted_registers, AddPost}
use Rattle.rollup.specs.declared.accumulator.Form.{Form}
use Rattle.rollup.specs.declared.paths.Path.{Path}
use Rattle.rollup.specs.declared.paths.Path.TheVariants.{Waits, Sorts, Inserts, Merges}
use Rattle.rollup.specs.declared.adding.Fitted.{Fitted}
use Rattle.rollup.specs.Header.{data_of}

-- ---- which path values take (src/paths)

-- The numbers of the waiting test are small enough to be added.
pub record WaitPre (a : Accumulator) (x : Incoming) (k : ℕ) : Type 0 where
  pub low : 4 ≤ a.precision
  pub high : a.precision ≤ 24
  pub bytes : a.sparse_bytes ≤ 2147483647
  pub few : a.pending_len ≤ max_pending
  pub growth : x.growth ≤ 5 * 2147483647
  pub incoming : k ≤ 2147483647

-- Where a list is said to be one that a merge can leave, it is.
abbrev pub KnownDistinct : Bool → ℕ → ℕ → List ℕ → Type 0
KnownDistinct known p s kept = known ≡ true → distinct_slots p s kept ≡ true

-- A list in order, and what is known of it.
pub record InsertsPre (a : Accumulator) (kept : List ℕ) (distinct : Bool) : Type 0 where
  pub pair : Pair a.precision a.sparse_precision
  pub order : ascends kept ≡ true
  pub all : all_valid a.precision a.sparse_precision kept ≡ true
  pub known : KnownDistinct distinct a.precision a.sparse_precision kept

-- At a roll-up of another form nothing is asked.
abbrev pub PathPre : Accumulator → Incoming → List ℕ → ℕ → Bool → Type 0
PathPre a x kept k distinct = a.form ≡ Sparse → WaitPre a x k × InsertsPre a kept distinct

-- ---- what is taken in first (src/starting)

-- A row of 2^p registers, or none, and room for it and for the values.
pub record StartPre (registers sparse scratch : List ℕ) (x : Incoming) (row : List ℕ) (k : ℕ) : Type 0 where
  pub high : x.precision ≤ 24
  pub size : 0 < length row → length row ≡ 2 ^ x.precision
  pub in_registers : register_bytes x.precision ≤ length registers
  pub inside : k ≤ length scratch
  pub in_sparse : k ≤ length sparse

-- ---- a list roll-up (src/sparse_paths). Where a function takes the head after the mask and the count of values were brought up to date, nothing of what comes in is left
-- to be known but its row or its values.

-- The precisions of an encoding are the head's, and the list that a merge left can be set and counted.
pub record SettlePre (h : Accumulator) (enc : Encoding) (registers sparse : List ℕ) (r : Merged) : Type 0 where
  pub same : NewPost h.precision h.sparse_precision enc
  pub inside : r.len ≤ length sparse
  pub all : all_valid enc.normal_precision enc.sparse_precision (take r.len sparse) ≡ true
  pub room : register_bytes enc.normal_precision ≤ length registers
  pub few : r.len < 2 ^ 32

-- What was to be left of the head and the registers is there.
pub record Leaves (x : After) (r : Accumulator) (registers : List ℕ) : Type 0 where
  pub head : r ≡ x.head
  pub registers_left : registers ≡ x.registers

-- Merging the first n values of `sparse` with an ordered list, by way of `scratch`.
pub record BackPre (enc : Encoding) (sparse : List ℕ) (n : ℕ) (incoming scratch : List ℕ) : Type 0 where
  pub merge : MergePre enc (take n sparse) incoming scratch
  pub room : n + length incoming ≤ length sparse

-- The values kept, waiting and coming in, and their counts.
pub record ListReady (p s : ℕ) (h : Accumulator) (kept waiting vs : List ℕ) : Type 0 where
  pub pair : Pair p s
  pub order : ascends kept ≡ true
  pub kept_valid : all_valid p s kept ≡ true
  pub waiting_valid : all_valid p s waiting ≡ true
  pub incoming_order : ascends vs ≡ true
  pub incoming_valid : all_valid p s vs ≡ true
  pub bytes_low : written kept ≤ h.sparse_bytes
  pub bytes_high : h.sparse_bytes ≤ 2147483647
  pub short : h.sparse_len + h.pending_len ≤ 2147483647
  pub incoming_short : length vs ≤ 2147483647

-- Room for k more values in each list.
pub record ListRoom (a : Accumulator) (k sparse pending scratch : ℕ) : Type 0 where
  pub in_sparse : a.sparse_len + a.pending_len + k ≤ sparse
  pub in_pending : a.sparse_len + a.pending_len + k ≤ pending
  pub in_scratch : a.sparse_len + a.pending_len + k ≤ scratch

-- All values can be merged, and settled.
pub record MergeInPre (h : Accumulator) (registers sparse pending scratch : List ℕ) (k : ℕ) : Type 0 where
  pub ready : ListReady h.precision h.sparse_precision h (take h.sparse_len sparse) (take h.pending_len pending) (take k scratch)
  pub room : ListRoom h k (length sparse) (length pending) (length scratch)
  pub in_registers : register_bytes h.precision ≤ length registers

-- Nothing waits, and those that come in can be inserted.
pub record InsertInPre (h : Accumulator) (registers sparse scratch : List ℕ) (k : ℕ) : Type 0 where
  pub inside : k ≤ length scratch
  pub ready : ListReady h.precision h.sparse_precision h (take h.sparse_len sparse) [] (take k scratch)
  pub none : h.pending_len ≡ 0
  pub distinct : distinct_slots h.precision h.sparse_precision (take h.sparse_len sparse) ≡ true
  pub in_sparse : h.sparse_len + k ≤ length sparse
  pub in_registers : register_bytes h.precision ≤ length registers

-- Two lists that are to be set.
pub record SetListsPre (enc : Encoding) (kept waiting bytes : List ℕ) : Type 0 where
  pub kept_valid : all_valid enc.normal_precision enc.sparse_precision kept ≡ true
  pub waiting_valid : all_valid enc.normal_precision enc.sparse_precision waiting ≡ true
  pub room : register_bytes enc.normal_precision ≤ length bytes

-- Two lists that can be set, and a row of registers of the same precision.
pub record DensifyPre (h : Accumulator) (registers sparse pending row : List ℕ) : Type 0 where
  pub pair : Pair h.precision h.sparse_precision
  pub kept_in : h.sparse_len ≤ length sparse
  pub waiting_in : h.pending_len ≤ length pending
  pub kept_valid : all_valid h.precision h.sparse_precision (take h.sparse_len sparse) ≡ true
  pub waiting_valid : all_valid h.precision h.sparse_precision (take h.pending_len pending) ≡ true
  pub room : register_bytes h.precision ≤ length registers
  pub size : length row ≡ 2 ^ h.precision

-- ---- a dense roll-up (src/dense_paths)

-- Registers of precision p that are to become those of a precision that is not larger.
pub record LowerOwnPre (p : ℕ) (registers : List ℕ) : Type 0 where
  pub high : p ≤ 24
  pub room : register_bytes p ≤ length registers
  pub small : largest (registers_of p registers) + p < 256

pub record LowerOwnPost (p other : ℕ) (before : List ℕ) (r : ℕ) (after : List ℕ) : Type 0 where
  pub smaller : r ≡ min p other
  pub left : after ≡ with_registers p (lowered_in_place p (min p other) (registers_of p before)) before

-- A row of precision p for registers of precision q.
pub record RaiseByRowPre (q p : ℕ) (row registers : List ℕ) : Type 0 where
  pub order : q ≤ p
  pub high : p ≤ 24
  pub size : length row ≡ 2 ^ p
  pub small : largest row + p < 256
  pub room : register_bytes q ≤ length registers

-- A list of precisions p and s.
pub record RaiseByListPre (q p s : ℕ) (vs registers : List ℕ) : Type 0 where
  pub low : 4 ≤ q
  pub order : q ≤ p
  pub pair : Pair p s
  pub all : all_valid p s vs ≡ true
  pub room : register_bytes q ≤ length registers

-- Either, or neither, that can be lowered.
pub record Lowers (x : Incoming) (row vs : List ℕ) : Type 0 where
  pub high : x.precision ≤ 24
  pub size : 0 < length row → length row ≡ 2 ^ x.precision
  pub small : largest row + x.precision < 256
  pub pair : length row ≡ 0 → Pair x.precision x.sparse_precision
  pub all : all_valid x.precision x.sparse_precision vs ≡ true

pub record RaisePre (q : ℕ) (x : Incoming) (row vs registers : List ℕ) : Type 0 where
  pub low : 4 ≤ q
  pub order : q ≤ x.precision
  pub lowers : Lowers x row vs
  pub room : register_bytes q ≤ length registers

pub record DensePre (a : Accumulator) (registers scratch : List ℕ) (x : Incoming) (row : List ℕ) (k : ℕ) : Type 0 where
  pub inside : k ≤ length scratch
  pub own_low : 4 ≤ a.precision
  pub own : LowerOwnPre a.precision registers
  pub low : 4 ≤ x.precision
  pub lowers : Lowers x row (take k scratch)

-- ---- taking in (src/taking)

-- A head that fits; registers or values as the questions leave them, of the roll-up's pair where it has a list; and room.
pub record TakePre (a : Accumulator) (m : Mem) (room : ℕ) (x : Incoming) (row vs : List ℕ) : Type 0 where
  pub fit : fits a m ≡ true
  pub low : 4 ≤ x.precision
  pub high : x.precision ≤ 24
  pub sparse : 0 < x.sparse_precision
  pub size : 0 < length row → length row ≡ 2 ^ x.precision
  pub small : largest row ≤ largest_rank x.precision
  pub pair : length row ≡ 0 → Pair x.precision x.sparse_precision
  pub order : ascends vs ≡ true
  pub all : all_valid x.precision x.sparse_precision vs ≡ true
  pub same_normal : a.form ≡ Sparse → x.precision ≡ a.precision
  pub same_sparse : a.form ≡ Sparse → x.sparse_precision ≡ a.sparse_precision
  pub in_registers : wanted_registers a x.precision ≤ length m.registers
  pub in_lists : 0 < length vs → ListRoom a (length vs) (length m.sparse) (length m.pending) room
  pub bytes_low : written vs ≤ x.list_bytes
  pub bytes_high : x.list_bytes ≤ 2147483647
  pub incoming_short : length vs ≤ 2147483647
  pub growth_low : 5 * length vs ≤ x.growth
  pub growth_high : x.growth ≤ 5 * 2147483647
  pub most : x.most ≤ max_pending

-- The first k cells of `scratch` are the values, and the path is theirs.
pub record TakingPre (a : Accumulator) (m : Mem) (scratch : List ℕ) (x : Incoming) (path : Option Path) (row : List ℕ) (k : ℕ) : Type 0 where
  pub inside : k ≤ length scratch
  pub taken : TakePre a m (length scratch) x row (take k scratch)
  pub its : path ≡ path_of a.form a (kept_of a m) x k

-- ---- adding (src/adding)

-- What is known of a roll-up between two calls: its head fits, and where the list that is kept is said to be one that a merge can leave, it is.
pub record Sound (a : Accumulator) (distinct : Bool) (m : Mem) : Type 0 where
  pub fit : fits a m ≡ true
  pub known : KnownDistinct distinct a.precision a.sparse_precision (kept_of a m)

-- What is known of the list after a path, by the form before. A merge leaves distinct values; where there was none, the list is as it was. Of a first list nothing is known.
abbrev pub distinct_after : Form → Option Path → Bool → Bool
distinct_after Unstarted path known = false
distinct_after Sparse None known = known
distinct_after Sparse (Some Waits) known = known
distinct_after Sparse (Some Sorts) known = true
distinct_after Sparse (Some Inserts) known = true
distinct_after Sparse (Some Merges) known = true
distinct_after Dense path known = known

-- Every question is answered with yes, and the first k cells of `scratch` are the values of the list.
pub record AcceptPre (a : Accumulator) (distinct : Bool) (m : Mem) (scratch : List ℕ) (st : State) (k : ℕ) : Type 0 where
  pub inside : k ≤ length scratch
  pub taken : TakePre a m (length scratch) (state_numbers st (take k scratch)) (data_of st) (take k scratch)
  pub known : KnownDistinct distinct a.precision a.sparse_precision (kept_of a m)

-- What an accepted state leaves, and what is known afterwards.
pub record AcceptPost (a : Accumulator) (m : Mem) (st : State) (vs : List ℕ) (r : Fitted) (n : Mem) : Type 0 where
  pub after : Shows (accepted_after a.form a m st vs) r.head n
  pub known : KnownDistinct r.distinct r.head.precision r.head.sparse_precision (kept_of r.head n)

-- What adding promises of a head that fits: what it promises of any, and what is known afterwards. When `distinct` is said is free: it changes no answer, and saves an
-- insertion a walk over the list.
pub record FittingPost (a : Accumulator) (m : Mem) (room : ℕ) (bytes : List ℕ) (answer : ℕ) (r : Fitted) (n : Mem) : Type 0 where
  pub added : AddPost a m room bytes answer r.head n
  pub sound : Sound r.head r.distinct n

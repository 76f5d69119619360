-- Taking in (document 01, module 6): what a roll-up is left as by what comes to it, path by path. What comes is numbers (`Incoming`) with a row of registers, a byte each, or
-- with values; an empty row is none. A state is one case of it: `state_numbers` in specs/Adding.
use Rattle.std.specs.Prelude.{◌≡◌, ℕ, Option, Some, None, ◌+◌, ◌-◌, ◌*◌, ◌%◌, ◌^◌, min, Bool, cond, not, ◌&&◌, List, [], ◌++◌, length, ◌==◌, bit_and, nat_le, nat_lt}
use mathlib.Core.List.{Permᴰ}
use Rattle.lists.specs.Lists.{merged, written, distinct_slots}
use Rattle.lists.specs.Registers.{registers_of, with_registers, zeros, raised_by, raised_lower, larger, lowered, with_freed}
use Rattle.rollup.specs.declared.accumulator.Form.{Form}
use Rattle.rollup.specs.declared.accumulator.Form.TheVariants.{Unstarted, Sparse, Dense}
use Rattle.rollup.specs.declared.accumulator.Accumulator.{Accumulator}
use Rattle.rollup.specs.declared.incoming.Incoming.{Incoming}
use Rattle.rollup.specs.declared.paths.Path.{Path}
use Rattle.rollup.specs.declared.paths.Path.TheVariants.{Waits, Sorts, Inserts, Merges}
use Rattle.rollup.specs.Accumulator.{Mem, kept_of, waiting_of, limit, waiting_bound, head_with}
use Rattle.rollup.specs.Header.{is_empty}

-- What is to be left: the head, the register bytes, the values kept, and those waiting, in some order.
pub record After : Type 0 where
  pub head : Accumulator
  pub registers : List ℕ
  pub kept : List ℕ
  pub waiting : List ℕ

-- A head with the lists and registers of the memory as they are.
abbrev pub unchanged : Accumulator → Mem → After
unchanged a m = record { head = a; registers = m.registers; kept = kept_of a m; waiting = waiting_of a m }

-- What a call left is what it was to leave. The order in `pending` is free.
pub record Shows (x : After) (a : Accumulator) (m : Mem) : Type 0 where
  pub head : a ≡ x.head
  pub registers : m.registers ≡ x.registers
  pub kept : kept_of a m ≡ x.kept
  pub waiting : Permᴰ (waiting_of a m) x.waiting

-- What is free: `scratch`, and the cells of the lists past their counts, may hold anything after a call; how many cells there are stays. Besides the
-- order in `pending` (`waiting` of `Shows`) nothing else is free.
pub record Free (m n : Mem) : Type 0 where
  pub registers : length n.registers ≡ length m.registers
  pub sparse : length n.sparse ≡ length m.sparse
  pub pending : length n.pending ≡ length m.pending

-- ---- heads

-- A head of list form, and a dense one.
abbrev pub list_head : (mask value_type count p s size len bytes waiting : ℕ) → Accumulator
list_head = head_with Sparse

abbrev pub dense_head : (mask value_type count p s size bytes : ℕ) → Accumulator
dense_head mask value_type count p s size bytes = head_with Dense mask value_type count p s size 0 bytes 0

-- "masks intersect; value counts add as signed 64-bit numbers that wrap."
abbrev pub common_mask : Accumulator → ℕ → ℕ
common_mask a mask = bit_and a.allowed mask

abbrev pub sum_count : Accumulator → ℕ → ℕ
sum_count a count = (a.num_values + count) % 2 ^ 64

abbrev pub counted : Accumulator → Incoming → Accumulator
counted a x =
    head_with a.form (common_mask a x.mask) a.value_type (sum_count a x.num_values) a.precision a.sparse_precision a.sparse_size
    a.sparse_len a.sparse_bytes a.pending_len

-- The same head with another list, and with registers: "with sparse size, kept count and kept bytes 0".
abbrev pub with_list : Accumulator → (size len bytes waiting : ℕ) → Accumulator
with_list h size len bytes waiting =
    list_head h.allowed h.value_type h.num_values h.precision h.sparse_precision size len bytes waiting

abbrev pub densed : Accumulator → Accumulator
densed h = dense_head h.allowed h.value_type h.num_values h.precision h.sparse_precision 0 0

-- ---- the first

-- "The first state sets the head. Its list goes to kept, repeats included, and kept bytes is its field's length, L unchecked."
abbrev pub start_list : Mem → Incoming → List ℕ → After
start_list m x vs =
    record {
      head = list_head x.mask x.value_type x.num_values x.precision x.sparse_precision x.sparse_size (length vs) x.list_bytes 0;
      registers = m.registers;
      kept = vs;
      waiting = [];
    }

abbrev pub start_dense : Mem → Incoming → List ℕ → After
start_dense m x row =
    record {
      head = dense_head x.mask x.value_type x.num_values x.precision x.sparse_precision x.sparse_size 0;
      registers = with_registers x.precision row m.registers;
      kept = [];
      waiting = [];
    }

unfoldable pub start_after : Mem → Incoming → (row vs : List ℕ) → After
start_after m x row vs = cond (is_empty row) (start_list m x vs) (start_dense m x row)

-- ---- a list roll-up; h is its head with mask and count brought up to date (`counted`)

-- "After the last three, sparse size is the kept count; kept bytes ≥ L turns it dense, with sparse size, kept count and kept bytes 0."
abbrev pub as_list : Accumulator → (registers l : List ℕ) → ℕ → After
as_list h registers l bytes = record { head = with_list h (length l) (length l) bytes 0; registers = registers; kept = l; waiting = [] }

abbrev pub as_dense : Accumulator → (registers l : List ℕ) → After
as_dense h registers l =
    record {
      head = densed h;
      registers = with_registers h.precision (raised_by h.precision h.sparse_precision (zeros h.precision) l) registers;
      kept = [];
      waiting = [];
    }

unfoldable pub settle : Accumulator → (registers l : List ℕ) → ℕ → After
settle h registers l bytes = cond (nat_lt bytes (limit h.precision)) (as_list h registers l bytes) (as_dense h registers l)

-- "A list of k values at a sparse roll-up waits if kept bytes + 5 × waiting + 5 × k < L and waiting + k ≤ 2048." Of a state, `growth` is 5 × k and `most` 2048.
abbrev pub waits : Accumulator → Incoming → ℕ → Bool
waits a x k = nat_lt (waiting_bound a + x.growth) (limit a.precision) && nat_le (a.pending_len + k) x.most

-- "With k ≤ 16 and 16 × k ≤ kept count, it is inserted"; and the Difference: "Where kept holds equal values or two marked values of one index .. the roll-up merges
-- instead."
abbrev pub inserts : Accumulator → List ℕ → ℕ → Bool
inserts a kept k = nat_le k 16 && nat_le (16 * k) a.sparse_len && distinct_slots a.precision a.sparse_precision kept

-- The path of k values: they wait; "else, with values waiting, all are sorted and merged"; else they are inserted, or merged. Without values there is none.
abbrev pub list_path : Accumulator → List ℕ → Incoming → ℕ → Option Path
list_path a kept x k =
    cond (k == 0) None
    (cond (waits a x k) (Some Waits) (cond (not (a.pending_len == 0)) (Some Sorts) (cond (inserts a kept k) (Some Inserts) (Some Merges))))

abbrev pub path_of : Form → Accumulator → List ℕ → Incoming → ℕ → Option Path
path_of Unstarted a kept x k = None
path_of Sparse a kept x k = list_path a kept x k
path_of Dense a kept x k = None

-- Those kept, those waiting and those that come, as one list.
abbrev pub all_merged : Accumulator → Mem → List ℕ → List ℕ
all_merged h m vs = merged h.precision h.sparse_precision (kept_of h m) (waiting_of h m ++ vs)

-- They go to those that wait.
abbrev pub as_waiting : Accumulator → Mem → List ℕ → After
as_waiting h m vs =
    record {
      head = with_list h h.sparse_size h.sparse_len h.sparse_bytes (h.pending_len + length vs);
      registers = m.registers;
      kept = kept_of h m;
      waiting = waiting_of h m ++ vs;
    }

-- What each path leaves. An insertion: "the list is the merge's, kept bytes change by the change in written length."
unfoldable pub list_after : Option Path → Accumulator → Mem → List ℕ → After
list_after None h m vs = unchanged h m
list_after (Some Waits) h m vs = as_waiting h m vs
list_after (Some Sorts) h m vs = settle h m.registers (all_merged h m vs) (written (all_merged h m vs))
list_after (Some Inserts) h m vs = settle h m.registers (all_merged h m vs) (h.sparse_bytes + written (all_merged h m vs) - written (kept_of h m))
list_after (Some Merges) h m vs = settle h m.registers (all_merged h m vs) (written (all_merged h m vs))

-- "Data turns a sparse roll-up dense first, waiting values set too, with those three numbers and the waiting count 0."
abbrev pub row_taken : Accumulator → Mem → List ℕ → After
row_taken h m row =
    record {
      head = densed h;
      registers =
          with_registers h.precision
          (larger (raised_by h.precision h.sparse_precision (zeros h.precision) (kept_of h m ++ waiting_of h m)) row) m.registers;
      kept = [];
      waiting = [];
    }

-- "At a sparse roll-up a state without list or data bytes changes no more": an accepted list has values just where it has bytes (`some` and `fewer` of `Accepted`, in lists'
-- proofs/DecodingLaws).
unfoldable pub sparse_after : Accumulator → Mem → Incoming → (row vs : List ℕ) → After
sparse_after a m x row vs =
    let h = counted a x in
    cond (is_empty row) (list_after (list_path a (kept_of a m) x (length vs)) h m vs) (row_taken h m row)

-- ---- a dense roll-up

-- The smaller of two 32-bit numbers as signed ones.
abbrev pub signed_key : ℕ → ℕ
signed_key v = (v + 2 ^ 31) % 2 ^ 32

abbrev pub signed_min : ℕ → ℕ → ℕ
signed_min x y = cond (nat_lt (signed_key y) (signed_key x)) y x

-- Registers of precision q, raised by the row lowered to it, or by the values.
abbrev pub raised_to : ℕ → Incoming → (row vs : List ℕ) → List ℕ → List ℕ
raised_to q x row vs regs =
    cond (is_empty row) (raised_lower x.precision x.sparse_precision (x.precision - q) regs vs) (larger regs (lowered (x.precision - q) q row))

-- "A dense one takes any precision: p and s become the smaller of each; freed register bytes are zero, other bytes past 2^p untouched." Its kept bytes, which
-- question 1 does not ask for, stay as they are.
unfoldable pub dense_after : Accumulator → Mem → Incoming → (row vs : List ℕ) → After
dense_after a m x row vs =
    let h = counted a x in
    let p = a.precision in
    let q = min p x.precision in
    let own = lowered (p - q) q (registers_of p m.registers) in
    record {
      head =
          dense_head h.allowed h.value_type h.num_values q (signed_min a.sparse_precision x.sparse_precision) h.sparse_size
          h.sparse_bytes;
      registers = with_registers p (with_freed p q (raised_to q x row vs own)) m.registers;
      kept = [];
      waiting = [];
    }

-- ---- all of it

abbrev pub taken_after : Form → Accumulator → Mem → Incoming → (row vs : List ℕ) → After
taken_after Unstarted a m x row vs = start_after m x row vs
taken_after Sparse a m x row vs = sparse_after a m x row vs
taken_after Dense a m x row vs = dense_after a m x row vs

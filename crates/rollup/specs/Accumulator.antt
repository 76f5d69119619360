-- The accumulator (document 01's head) and its lent memory, and what fits (question 1).
use Rattle.std.specs.Prelude.{ℕ, Option, Some, None, ◌+◌, ◌-◌, ◌*◌, ◌^◌, ◌<◌, cond, leb, eqb, Bool, true, false, not, ◌&&◌, ◌||◌, List, length, take, ◌==◌, nat_le, nat_lt}
use Rattle.lists.specs.Values.{largest_rank}
use Rattle.lists.specs.Sorting.{ascends}
use Rattle.lists.specs.Lists.{all_valid, written}
use Rattle.lists.specs.Registers.{register_bytes, registers_of, largest}
use Rattle.rollup.specs.declared.accumulator.Form.{Form}
use Rattle.rollup.specs.declared.accumulator.Form.TheVariants.{Unstarted, Sparse, Dense}
use Rattle.rollup.specs.declared.accumulator.Accumulator.{Accumulator}

-- Lent memory: register bytes and the lists `sparse` (document 01's kept) and `pending` (its waiting). Of `scratch` (its working) only the
-- length counts, which stands beside it.
pub record Mem : Type 0 where
  pub registers : List ℕ
  pub sparse : List ℕ
  pub pending : List ℕ

abbrev pub mem : List ℕ → List ℕ → List ℕ → Mem
mem registers sparse pending = record { registers = registers; sparse = sparse; pending = pending }

-- Whether something was taken in.
abbrev pub is_started : Form → Bool
is_started Unstarted = false
is_started Sparse = true
is_started Dense = true

-- The values that are kept, and those that wait: up to their counts.
abbrev pub kept_of : Accumulator → Mem → List ℕ
kept_of a m = take a.sparse_len m.sparse

abbrev pub waiting_of : Accumulator → Mem → List ℕ
waiting_of a m = take a.pending_len m.pending

-- "Limit L = 3 × 2^(p−2)."
abbrev pub limit : ℕ → ℕ
limit p = 3 * 2 ^ (p - 2)

-- "Waiting at most 2048": MAX_PENDING in the Rust.
abbrev pub max_pending : ℕ
max_pending = 2048

-- ---- question 1: "Does the head fit?"

-- "p in 4..24"; "s in p..25".
abbrev pub normal_range : ℕ → Bool
normal_range p = nat_le 4 p && nat_le p 24

abbrev pub sparse_range : ℕ → ℕ → Bool
sparse_range p s = nat_le p s && nat_le s 25

-- "Started: p in 4..24 .. Sparse: s in p..25", which is "s not 0", too.
abbrev pub ranges_fit : ℕ → ℕ → Bool
ranges_fit p s = normal_range p && sparse_range p s

-- "Unstarted or dense: both counts 0."
abbrev pub no_lists : Accumulator → Bool
no_lists a = a.sparse_len == 0 && a.pending_len == 0

-- Kept bytes, and five for each value that waits.
abbrev pub waiting_bound : Accumulator → ℕ
waiting_bound a = a.sparse_bytes + 5 * a.pending_len

-- "With values waiting, kept bytes + 5 × waiting < L."
abbrev pub waiting_fits : Accumulator → Bool
waiting_fits a = a.pending_len == 0 || nat_lt (waiting_bound a) (limit a.precision)

-- "The two counts fit their own lists", of so many cells; "waiting at most 2048, kept bytes .. to 2,147,483,647".
unfoldable pub counts_fit : Accumulator → ℕ → ℕ → Bool
counts_fit a cells waitingCells =
    nat_le a.sparse_len cells
    && nat_le a.pending_len waitingCells
    && nat_le a.pending_len max_pending
    && nat_le a.sparse_bytes 2147483647
    && waiting_fits a

-- "Both lists valid, kept not descending .. kept bytes from the written length."
unfoldable pub lists_fit : Accumulator → List ℕ → List ℕ → Bool
lists_fit a kept waiting =
    all_valid a.precision a.sparse_precision kept
    && all_valid a.precision a.sparse_precision waiting
    && ascends kept
    && nat_le (written kept) a.sparse_bytes

-- "The two counts fit their own lists and, if dense, 2^p the registers"; "registers at most 65−p" (document 02, U3).
abbrev pub registers_fit : ℕ → List ℕ → Bool
registers_fit p registers = nat_le (register_bytes p) (length registers) && nat_le (largest (registers_of p registers)) (largest_rank p)

-- Of the memory a list roll-up asks for the two lists alone, and a dense one for the registers.
abbrev pub sparse_fits : Accumulator → Mem → Bool
sparse_fits a m =
    ranges_fit a.precision a.sparse_precision
    && counts_fit a (length m.sparse) (length m.pending)
    && lists_fit a (kept_of a m) (waiting_of a m)

-- "Started: p in 4..24, s not 0."
abbrev pub dense_fits : Accumulator → Mem → Bool
dense_fits a m = normal_range a.precision && not (a.sparse_precision == 0) && no_lists a && registers_fit a.precision m.registers

abbrev pub fits_form : Form → Accumulator → Mem → Bool
fits_form Unstarted a m = no_lists a
fits_form Sparse a m = sparse_fits a m
fits_form Dense a m = dense_fits a m

unfoldable pub fits : Accumulator → Mem → Bool
fits a m = fits_form a.form a m

-- ---- what a head tells

-- A head of its ten numbers.
abbrev pub head_with : Form → (mask value_type count p s size len bytes waiting : ℕ) → Accumulator
head_with form mask value_type count p s size len bytes waiting =
    record {
      form = form;
      allowed = mask;
      value_type = value_type;
      num_values = count;
      precision = p;
      sparse_precision = s;
      sparse_size = size;
      sparse_len = len;
      sparse_bytes = bytes;
      pending_len = waiting;
    }

-- "A fresh head is unstarted with every number 0."
abbrev pub fresh : Accumulator
fresh = head_with Unstarted 0 0 0 0 0 0 0 0 0

-- The bounds that those numbers of a head have by their types that are written as they are.
pub record HeadWidths (a : Accumulator) : Type 0 where
  pub value_type : a.value_type < 2 ^ 32
  pub count : a.num_values < 2 ^ 64
  pub sparse_precision : a.sparse_precision < 2 ^ 32
  pub size : a.sparse_size < 2 ^ 32

-- What an accumulator tells of itself: the value count and the two precisions, where it was started.
abbrev pub count_of : Form → Accumulator → ℕ
count_of Unstarted a = 0
count_of Sparse a = a.num_values
count_of Dense a = a.num_values

abbrev pub precisions_of : Form → Accumulator → Option (ℕ × ℕ)
precisions_of Unstarted a = None
precisions_of Sparse a = Some (a.precision, a.sparse_precision)
precisions_of Dense a = Some (a.precision, a.sparse_precision)

-- Document 01's forms: 0 unstarted, 1 list, 2 dense.
abbrev pub form_number : Form → ℕ
form_number Unstarted = 0
form_number Sparse = 1
form_number Dense = 2

abbrev pub form_of : ℕ → Form
form_of n = cond (eqb n 0) Unstarted (cond (eqb n 1) Sparse Dense)

-- What reading a form answers.
abbrev pub read_form : ℕ → Option Form
read_form n = cond (leb n 2) (Some (form_of n)) None

-- What is said of a batch at the end (document 01, "The batch"): "Then p, s, value count, registers not zero (a list's values read as registers); then
-- the written state, or the writing refusal's number." The first three are numbers of the head.
use Rattle.std.specs.Prelude.{◌≡◌, Option, Some, None, List, true, cond, ℕ, ◌≤◌, leb, length, take}
use Rattle.lists.specs.Values.{Pair}
use Rattle.lists.specs.Lists.{all_valid}
use Rattle.lists.specs.Registers.{register_bytes, not_zero_count}
use Rattle.rollup.specs.declared.accumulator.Form.{Form}
use Rattle.rollup.specs.declared.accumulator.Form.TheVariants.{Unstarted, Sparse, Dense}
use Rattle.rollup.specs.declared.accumulator.Accumulator.{Accumulator}
use Rattle.rollup.specs.Accumulator.{Mem}
use Rattle.rollup.specs.Refusals.{answer_of, length_of}
use Rattle.rollup.specs.Writing.{WritePost}
use Rattle.rollup.specs.Calls.{rollup_registers}
use Rattle.batch.specs.declared.closing.Report.{Report}
use Rattle.batch.specs.Batch.{RolledPost}

-- "Registers not zero": those of the roll-up, by the definition that demand 3 compares. A list's need a piece of `space` bytes.
unfoldable pub count_for : Form → Accumulator → Mem → ℕ → Option ℕ
count_for Unstarted a m space = Some 0
count_for Sparse a m space = cond (leb (register_bytes a.precision) space) (Some (not_zero_count (rollup_registers Sparse a m))) None
count_for Dense a m space = Some (not_zero_count (rollup_registers Dense a m))

-- A list's values that can be set in lent bytes.
pub record ListCountPre (a : Accumulator) (sparse pending spare : List ℕ) : Type 0 where
  pub pair : Pair a.precision a.sparse_precision
  pub kept_in : a.sparse_len ≤ length sparse
  pub waiting_in : a.pending_len ≤ length pending
  pub kept_valid : all_valid a.precision a.sparse_precision (take a.sparse_len sparse) ≡ true
  pub waiting_valid : all_valid a.precision a.sparse_precision (take a.pending_len pending) ≡ true
  pub room : register_bytes a.precision ≤ length spare

-- The records were added, which left the memory `between`; the registers were counted and the roll-up written as it was then. `old` is what the cells
-- for the answers held; `space` bytes were lent for a list's registers, and may hold anything afterwards.
pub record ReportPost (batch : List ℕ) (first : Mem) (room : ℕ) (old : List ℕ) (space : ℕ) (out : List ℕ) (r : Report) (m : Mem) (answers after : List ℕ) : Type 0 where
  pub between : Mem
  pub rolled : RolledPost batch first room r.rolled between old answers
  pub count : r.not_zero ≡ count_for r.rolled.head.form r.rolled.head between space
  pub written : WritePost r.rolled.head between room out (answer_of r.written) (length_of r.written) m after

-- The piece is never too short where it is as long as the registers: question 17 has asked for these.
unfoldable pub NeverShort : Type 0
NeverShort =
    (batch : List ℕ) (first : Mem) (room : ℕ) (old : List ℕ) (space : ℕ) (out : List ℕ) (r : Report) (m : Mem) (answers after : List ℕ)
    → ReportPost batch first room old space out r m answers after → length first.registers ≤ space → r.not_zero ≡ None → ⊥

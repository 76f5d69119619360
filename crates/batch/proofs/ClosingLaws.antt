-- The closing numbers: the registers of a list, set in lent bytes and counted, and the count by the form.
use Prim.Native.Nat.{ℕ, ◌≤◌}
use mathlib.Core.Path.{◌≡◌, refl, sym, ap, ◌∙◌}
use mathlib.Core.List.{List, []}
use mathlib.Core.Bool.{Bool, true, false, cond, true≢false}
use native.Mathlib.Omega.{arith}
use lib.ListN.{length, take, drop, length-take, length-append}
use borrow.Author.Tests.{le-leb}
use Rattle.std.specs.Prelude.{Option, Some, None}
use Rattle.lists.specs.Values.{Pair}
use Rattle.lists.specs.Lists.{all_valid}
use Rattle.lists.specs.Registers.{register_bytes, registers_of, with_registers, zeros, raised_by, not_zero_count}
use Rattle.lists.proofs.RegisterLaws.{of_with}
use Rattle.lists.proofs.RankLaws.{zeros_raised}
use Rattle.rollup.specs.declared.accumulator.Form.{Form}
use Rattle.rollup.specs.declared.accumulator.Form.TheVariants.{Unstarted, Sparse, Dense}
use Rattle.rollup.specs.declared.accumulator.Accumulator.{Accumulator}
use Rattle.rollup.specs.Accumulator.{Mem, fits, fresh, is_started}
use Rattle.rollup.specs.Refusals.{length_of}
use Rattle.rollup.specs.Writing.{write_outcome}
use Rattle.rollup.specs.Calls.{Unmoved, list_registers, rollup_registers}
use Rattle.rollup.proofs.FitLaws.{fit_sparse}
use Rattle.rollup.proofs.ViewLaws.{fresh_fits}
use Rattle.rollup.proofs.SpaceLaws.{steps_spacious}
use Rattle.rollup.proofs.AgreementLaws.{list_row}
use Rattle.batch.specs.declared.closing.Report.{Report}
use Rattle.batch.specs.Chain.{states_of}
use Rattle.batch.specs.Batch.{states_for}
use Rattle.batch.specs.Closing.{count_for, ListCountPre, ReportPost, NeverShort}
use Rattle.batch.proofs.RollLaws.{added_unmoved}

-- A list's values, set in lent bytes and counted.
module _ (p s : ℕ) (pair : Pair p s) (l bytes : List ℕ) (ok : all_valid p s l ≡ true) (room : register_bytes p ≤ length bytes) where
  pub list_counted : (after : List ℕ) (n : ℕ) → after ≡ with_registers p (raised_by p s (zeros p) l) bytes → n ≡ not_zero_count (registers_of p after)
      → n ≡ not_zero_count (list_registers p s l)
  list_counted after n e f =
      f
      ∙ ap not_zero_count
      (ap (registers_of p) e
      ∙ of_with p bytes room (raised_by p s (zeros p) l) (zeros_raised p s l)
      ∙ sym (list_row p s pair l ok))

-- Memory that a list's registers can be set from.
pub list_pre : (a : Accumulator) (m : Mem) (spare : List ℕ) → fits a m ≡ true → a.form ≡ Sparse → register_bytes a.precision ≤ length spare
    → ListCountPre a m.sparse m.pending spare
list_pre a m spare fit form room =
    let f = fit_sparse a m fit form in
    record { pair = f.pair; kept_in = f.kept_in; waiting_in = f.waiting_in; kept_valid = f.kept_valid; waiting_valid = f.waiting_valid; room = room }

-- What a report says of the memory that was lent: no more records than cells, and no more bytes written than the output has.
pub few_records : {batch : List ℕ} {first : Mem} {room : ℕ} {old : List ℕ} {space : ℕ} {out : List ℕ} {r : Report} {m : Mem} {answers after : List ℕ}
    → ReportPost batch first room old space out r m answers after → r.rolled.records ≤ length old
few_records {batch} {old = old} p = omega (arith, p.rolled.records, length-take (length old) (states_of batch))

pub written_inside : {batch : List ℕ} {first : Mem} {room : ℕ} {old : List ℕ} {space : ℕ} {out : List ℕ} {r : Report} {m : Mem} {answers after : List ℕ}
    → ReportPost batch first room old space out r m answers after → length_of r.written ≤ length after
written_inside {room = room} {out = out} {r = r} p =
    let bytes = (write_outcome r.rolled.head p.between room (length out)).bytes in
    omega (arith, p.written.counted, ap length p.written.output, length-append bytes (drop (length bytes) out))

-- ---- a list's registers always have room

-- Whether a count was made.
abbrev made : Option ℕ → Bool
made (Some n) = true
made None = false

-- It was, where the registers of a list have room.
count_made : (f : Form) (a : Accumulator) (m : Mem) (space : ℕ) → (f ≡ Sparse → register_bytes a.precision ≤ space) → made (count_for f a m space) ≡ true
unfolding count_for
count_made Unstarted a m space h = refl
count_made Sparse a m space h =
    ap (λ (t : Bool). made (cond t (Some (not_zero_count (rollup_registers Sparse a m))) None)) (le-leb (register_bytes a.precision) space (h refl))
count_made Dense a m space h = refl

no_calls : Unmoved []
unfolding Unmoved
no_calls = tt

pub never_short : NeverShort
unfolding NeverShort
never_short batch first room old space out r m answers after p lent short =
    let a = r.rolled.head in
    let states = states_for batch (length old) in
    let left = take r.rolled.records answers in
    let s =
    steps_spacious p.rolled.run (added_unmoved room states left [] no_calls) (fresh_fits first)
    (λ (t : is_started fresh.form ≡ true). absurd (true≢false (sym t))) in
    let inside : a.form ≡ Sparse → register_bytes a.precision ≤ space =
    λ (e : a.form ≡ Sparse).
    let x = s.space (ap is_started e) in
    let y = s.same in
    omega arith in
    true≢false (sym (ap made p.count ∙ count_made a.form a p.between space inside) ∙ ap made short)

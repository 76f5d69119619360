-- What is known of the list that is kept is so after something was taken in: a merge leaves one that a merge can leave, and nothing else changes it but the first that is taken in
-- and a row of registers.
use Rattle.std.proofs.Common.{◌≡◌, ℕ, Bool, true, false, ltb, List, [], ◌++◌, length, sym, subst, Option, Some, None}
use Rattle.wire.proofs.BoolLaws.{never}
use Rattle.lists.proofs.MergeLaws.{merged_distinct, distinct_none}
use Rattle.rollup.specs.declared.accumulator.Form.{Form}
use Rattle.rollup.specs.declared.accumulator.Form.TheVariants.{Unstarted, Sparse, Dense}
use Rattle.rollup.specs.declared.accumulator.Accumulator.{Accumulator}
use Rattle.rollup.specs.declared.incoming.Incoming.{Incoming}
use Rattle.rollup.specs.declared.paths.Path.{Path}
use Rattle.rollup.specs.declared.paths.Path.TheVariants.{Waits, Sorts, Inserts, Merges}
use Rattle.rollup.specs.Accumulator.{Mem, kept_of, waiting_of, limit}
use Rattle.rollup.specs.Header.{is_empty}
use Rattle.rollup.specs.Taking.{After, counted, settle, path_of, all_merged, list_after, dense_after, taken_after, Shows}
use Rattle.rollup.specs.Stages.{KnownDistinct, TakePre, distinct_after}
use Rattle.rollup.proofs.WaysLaws.{settle_ways, sparse_ways}

-- No two values of no list are of one slot.
none_known : (known : Bool) (p s : ℕ) → KnownDistinct known p s []
none_known known p s e = distinct_none p s

-- What is known of what is to be left.
abbrev Still : Bool → After → Type 0
Still known y = KnownDistinct known y.head.precision y.head.sparse_precision y.kept

module _ (a : Accumulator) (m : Mem) (x : Incoming) (row vs : List ℕ) (known : Bool) (is : KnownDistinct known a.precision a.sparse_precision (kept_of a m)) where
  merge_distinct : (bytes : ℕ) → Still true (settle (counted a x) m.registers (all_merged (counted a x) m vs) bytes)
  merge_distinct bytes =
      settle_ways (Still true) (counted a x) m.registers (all_merged (counted a x) m vs) bytes
      (λ (t : ltb bytes (limit a.precision) ≡ true) e. merged_distinct a.precision a.sparse_precision (kept_of a m) (waiting_of a m ++ vs))
      (λ (t : ltb bytes (limit a.precision) ≡ false). none_known true a.precision a.sparse_precision)

  list_distinct : (path : Option Path) → Still (distinct_after Sparse path known) (list_after path (counted a x) m vs)
  unfolding list_after
  list_distinct None = is
  list_distinct (Some Waits) = is
  list_distinct (Some Sorts) = merge_distinct _
  list_distinct (Some Inserts) = merge_distinct _
  list_distinct (Some Merges) = merge_distinct _

  taken_distinct : (f : Form) (path : Option Path) → path ≡ path_of f a (kept_of a m) x (length vs) → Still (distinct_after f path known) (taken_after f a m x row vs)
  unfolding dense_after
  taken_distinct Unstarted path its = never
  taken_distinct Sparse path its =
      sparse_ways (Still (distinct_after Sparse path known)) a m x row vs
      (λ (t : is_empty row ≡ true).
      subst (λ (way : Option Path). Still (distinct_after Sparse path known) (list_after way (counted a x) m vs)) its (list_distinct path))
      (λ (t : is_empty row ≡ false). none_known (distinct_after Sparse path known) a.precision a.sparse_precision)
  taken_distinct Dense path its = none_known known _ _

-- And so of what was left.
pub distinct_after_lem : {a : Accumulator} {m : Mem} {room : ℕ} {x : Incoming} {row vs : List ℕ} → TakePre a m room x row vs → (known : Bool)
    → KnownDistinct known a.precision a.sparse_precision (kept_of a m) → (path : Option Path) → path ≡ path_of a.form a (kept_of a m) x (length vs)
    → (r : Accumulator) (n : Mem) → Shows (taken_after a.form a m x row vs) r n
    → KnownDistinct (distinct_after a.form path known) r.precision r.sparse_precision (kept_of r n)
distinct_after_lem {a} {m} {x = x} {row = row} {vs = vs} pre known is path its r n shows =
    let after = taken_after a.form a m x row vs in
    let flag = distinct_after a.form path known in
    subst (λ (l : List ℕ). KnownDistinct flag r.precision r.sparse_precision l) (sym shows.kept)
    (subst (λ (h : Accumulator). KnownDistinct flag h.precision h.sparse_precision after.kept) (sym shows.head)
    (taken_distinct a m x row vs known is a.form path its))

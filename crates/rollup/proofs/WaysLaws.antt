-- The ways of what is taken in. What holds of the outcome of each way that there is holds of the outcome.
use Rattle.std.proofs.Common.{◌≡◌, ℕ, ◌+◌, ◌-◌, true, false, cond, not, eqb, ltb, List, length, sym, subst, eqb-true, Option, Some, None}
use borrow.Author.Tests.{not-false}
use Rattle.wire.proofs.BoolLaws.{either}
use Rattle.lists.specs.Lists.{written}
use Rattle.rollup.specs.declared.accumulator.Accumulator.{Accumulator}
use Rattle.rollup.specs.declared.incoming.Incoming.{Incoming}
use Rattle.rollup.specs.declared.paths.Path.{Path}
use Rattle.rollup.specs.declared.paths.Path.TheVariants.{Waits, Sorts, Inserts, Merges}
use Rattle.rollup.specs.Accumulator.{Mem, kept_of, limit}
use Rattle.rollup.specs.Header.{is_empty}
use Rattle.rollup.specs.Taking.{After, unchanged, counted, start_list, start_dense, start_after, as_list, as_dense, settle, waits, inserts, list_path, all_merged, as_waiting, list_after, row_taken, sparse_after}

-- The path of k values, and what its tests answered.
pub path_ways : (P : Option Path → Type 0) (a : Accumulator) (kept : List ℕ) (x : Incoming) (k : ℕ) → (k ≡ 0 → P None) → (waits a x k ≡ true → P (Some Waits)) → P (Some Sorts)
    → (a.pending_len ≡ 0 → inserts a kept k ≡ true → P (Some Inserts)) → (a.pending_len ≡ 0 → P (Some Merges)) → P (list_path a kept x k)
path_ways P a kept x k none wait sort insert merge =
    let placed = cond (inserts a kept k) (Some Inserts) (Some Merges) in
    let joined = cond (not (eqb a.pending_len 0)) (Some Sorts) placed in
    either P (eqb k 0) None (cond (waits a x k) (Some Waits) joined) (λ (e : eqb k 0 ≡ true). none (eqb-true k 0 e))
    (λ (e : eqb k 0 ≡ false).
    either P (waits a x k) (Some Waits) joined wait
    (λ (e : waits a x k ≡ false).
    either P (not (eqb a.pending_len 0)) (Some Sorts) placed (λ (e : not (eqb a.pending_len 0) ≡ true). sort)
    (λ (e : not (eqb a.pending_len 0) ≡ false).
    let z : a.pending_len ≡ 0 = eqb-true a.pending_len 0 (not-false (eqb a.pending_len 0) e) in
    either P (inserts a kept k) (Some Inserts) (Some Merges) (insert z) (λ (e : inserts a kept k ≡ false). merge z))))

module _ (P : After → Type 0) where
  pub start_ways : (m : Mem) (x : Incoming) (row vs : List ℕ) → (is_empty row ≡ true → P (start_list m x vs)) → (is_empty row ≡ false → P (start_dense m x row))
      → P (start_after m x row vs)
  unfolding start_after
  start_ways m x row vs = either P (is_empty row) (start_list m x vs) (start_dense m x row)

  pub settle_ways : (h : Accumulator) (registers l : List ℕ) (bytes : ℕ) → (ltb bytes (limit h.precision) ≡ true → P (as_list h registers l bytes))
      → (ltb bytes (limit h.precision) ≡ false → P (as_dense h registers l)) → P (settle h registers l bytes)
  unfolding settle
  settle_ways h registers l bytes = either P (ltb bytes (limit h.precision)) (as_list h registers l bytes) (as_dense h registers l)

  -- No values come, or they wait, or all are merged; an insertion counts the bytes in a way of its own.
  pub list_ways : (h : Accumulator) (m : Mem) (vs : List ℕ) (a : Accumulator) (x : Incoming) {path : Option Path} → path ≡ list_path a (kept_of a m) x (length vs)
      → (length vs ≡ 0 → P (unchanged h m)) → (waits a x (length vs) ≡ true → P (as_waiting h m vs))
      → P (settle h m.registers (all_merged h m vs) (written (all_merged h m vs)))
      → (a.pending_len ≡ 0 → inserts a (kept_of a m) (length vs) ≡ true
      → P (settle h m.registers (all_merged h m vs) (h.sparse_bytes + written (all_merged h m vs) - written (kept_of h m)))) → P (list_after path h m vs)
  unfolding list_after
  list_ways h m vs a x its none wait merge insert =
      subst (λ (path : Option Path). P (list_after path h m vs)) (sym its)
      (path_ways (λ (path : Option Path). P (list_after path h m vs)) a (kept_of a m) x (length vs) none wait merge insert (λ (z : a.pending_len ≡ 0). merge))

  -- At a list roll-up.
  pub sparse_ways : (a : Accumulator) (m : Mem) (x : Incoming) (row vs : List ℕ)
      → (is_empty row ≡ true → P (list_after (list_path a (kept_of a m) x (length vs)) (counted a x) m vs))
      → (is_empty row ≡ false → P (row_taken (counted a x) m row)) → P (sparse_after a m x row vs)
  unfolding sparse_after
  sparse_ways a m x row vs = either P (is_empty row) (list_after (list_path a (kept_of a m) x (length vs)) (counted a x) m vs) (row_taken (counted a x) m row)

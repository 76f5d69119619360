-- Where values come from: each that is kept or waits after something was taken in was kept, or waited, or came in.
use Rattle.std.proofs.Common.{◌≡◌, ℕ, true, false, ltb, List, [], ◌++◌, length, refl, ⊎_elim}
use mathlib.Core.List.Memᴰ
use mathlib.Core.List.{Memᴰ}
use Rattle.lists.proofs.MergeLaws.{merged_from}
use Rattle.rollup.specs.declared.accumulator.Form.{Form}
use Rattle.rollup.specs.declared.accumulator.Form.TheVariants.{Unstarted, Sparse, Dense}
use Rattle.rollup.specs.declared.accumulator.Accumulator.{Accumulator}
use Rattle.rollup.specs.declared.incoming.Incoming.{Incoming}
use Rattle.rollup.specs.Accumulator.{Mem, kept_of, waiting_of, limit}
use Rattle.rollup.specs.Header.{is_empty}
use Rattle.rollup.specs.Taking.{After, counted, settle, waits, inserts, all_merged, dense_after, taken_after}
use Rattle.rollup.proofs.WaysLaws.{start_ways, settle_ways, list_ways, sparse_ways}

module _ (a : Accumulator) (m : Mem) (x : Incoming) (row vs : List ℕ) (v : ℕ) where
  abbrev Known : Type 0
  Known = Memᴰ v (kept_of a m ++ waiting_of a m ++ vs)

  abbrev Comes : After → Type 0
  Comes y = Memᴰ v (y.kept ++ y.waiting) → Known

  -- A list's own, and no list's.
  only : (l : List ℕ) → Memᴰ v (l ++ []) → Memᴰ v l
  only l i = ⊎_elim (λ (j : Memᴰ v l). j) (λ (j : Memᴰ v []). absurd (Memᴰ.not-nil j)) (Memᴰ.append_cases l i)

  nothing : Memᴰ v ([] ++ []) → Known
  nothing i = absurd (Memᴰ.not-nil (only [] i))

  was_kept : Memᴰ v (kept_of a m) → Known
  was_kept i = Memᴰ.append_left vs (Memᴰ.append_left (waiting_of a m) i)

  later : Memᴰ v (waiting_of a m ++ vs) → Known
  later i =
      ⊎_elim (λ (j : Memᴰ v (waiting_of a m)). Memᴰ.append_left vs (Memᴰ.append_right (kept_of a m) j))
      (λ (j : Memᴰ v vs). Memᴰ.append_right (kept_of a m ++ waiting_of a m) j) (Memᴰ.append_cases (waiting_of a m) i)

  merge_comes : (bytes : ℕ) → Comes (settle (counted a x) m.registers (all_merged a m vs) bytes)
  merge_comes bytes =
      settle_ways Comes (counted a x) m.registers (all_merged a m vs) bytes
      (λ (t : ltb bytes (limit a.precision) ≡ true) (i : Memᴰ v (all_merged a m vs ++ [])).
      ⊎_elim was_kept later
      (merged_from a.precision a.sparse_precision (kept_of a m) (waiting_of a m ++ vs) v (only (all_merged a m vs) i)))
      (λ (t : ltb bytes (limit a.precision) ≡ false). nothing)

  pub taken_comes : (f : Form) → Comes (taken_after f a m x row vs)
  unfolding dense_after
  taken_comes Unstarted =
      start_ways Comes m x row vs
      (λ (t : is_empty row ≡ true) (i : Memᴰ v (vs ++ [])). Memᴰ.append_right (kept_of a m ++ waiting_of a m) (only vs i))
      (λ (t : is_empty row ≡ false). nothing)
  taken_comes Sparse =
      sparse_ways Comes a m x row vs
      (λ (t : is_empty row ≡ true).
      list_ways Comes (counted a x) m vs a x refl
      (λ (z : length vs ≡ 0) (i : Memᴰ v (kept_of a m ++ waiting_of a m)). Memᴰ.append_left vs i)
      (λ (t : waits a x (length vs) ≡ true) (i : Memᴰ v (kept_of a m ++ (waiting_of a m ++ vs))).
      ⊎_elim was_kept later (Memᴰ.append_cases (kept_of a m) i))
      (merge_comes _) (λ (z : a.pending_len ≡ 0) (t : inserts a (kept_of a m) (length vs) ≡ true). merge_comes _))
      (λ (t : is_empty row ≡ false). nothing)
  taken_comes Dense = nothing

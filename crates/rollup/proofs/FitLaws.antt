-- Question 1, taken apart by the form and put together: what follows where the head fits, as a record for each form.
use Rattle.std.proofs.Common.{◌≡◌, ℕ, ◌+◌, ◌-◌, ◌*◌, ◌%◌, ◌^◌, ◌<◌, ◌≤◌, Bool, true, not, ◌&&◌, ◌||◌, eqb, ltb, leb, List, length, sym, refl, ap, ◌∙◌, ap₂, ⊎_elim, pos_of_ne-zero, arith, length-take-le, pow_mono, ltb-true, lt-ltb, eq-eqb, ne_eqb, eqb-true, le-leb, leb-true}
use borrow.Author.Tests.{eqb-false, not-true}
use Rattle.wire.proofs.BoolLaws.{both, both_true}
use Rattle.std.proofs.lemmas.Bool.{cases_lt as side}
use Rattle.lists.proofs.DecodingLaws.{accepted, decode_encode}
use Rattle.lists.proofs.MergeLaws.{length_encode}
use Rattle.lists.proofs.RegisterLaws.{count_is}
use Rattle.lists.specs.Values.{Pair, largest_rank}
use Rattle.lists.specs.Sorting.{ascends}
use Rattle.lists.specs.Lists.{all_valid, encode_list, written}
use Rattle.lists.specs.Registers.{register_bytes, registers_of, largest}
use Rattle.rollup.specs.declared.accumulator.Form.{Form}
use Rattle.rollup.specs.declared.accumulator.Form.TheVariants.{Unstarted, Sparse, Dense}
use Rattle.rollup.specs.declared.accumulator.Accumulator.{Accumulator}
use Rattle.rollup.specs.Accumulator.{Mem, kept_of, waiting_of, limit, max_pending, normal_range, sparse_range, ranges_fit, no_lists, waiting_bound, waiting_fits, counts_fit, lists_fit, sparse_fits, dense_fits, fits_form, fits}

-- ---- Bools

pub both_yes : {a : Bool} (b : Bool) → a ≡ true → a && b ≡ b
both_yes b e = ap (λ (x : Bool). x && b) e

pub above_zero : (n : ℕ) → not (eqb n 0) ≡ true → 0 < n
above_zero n e = pos_of_ne-zero (eqb-false n 0 (not-true (eqb n 0) e))

above_zero_back : (s : ℕ) → 0 < s → not (eqb s 0) ≡ true
above_zero_back s h = ap not (ne_eqb s 0 (λ (e : s ≡ 0). let z : ⊥ = omega arith in z))

-- ---- what fits, by the form

pub fits_form_lem : (a : Accumulator) (m : Mem) (f : Form) → a.form ≡ f → fits a m ≡ fits_form f a m
unfolding fits
fits_form_lem a m f e = ap (λ (x : Form). fits_form x a m) e

pub record NoLists (a : Accumulator) : Type 0 where
  pub no_kept : a.sparse_len ≡ 0
  pub no_waiting : a.pending_len ≡ 0

pub record FitSparse (a : Accumulator) (m : Mem) : Type 0 where
  pub pair : Pair a.precision a.sparse_precision
  pub kept_in : a.sparse_len ≤ length m.sparse
  pub waiting_in : a.pending_len ≤ length m.pending
  pub kept_valid : all_valid a.precision a.sparse_precision (kept_of a m) ≡ true
  pub waiting_valid : all_valid a.precision a.sparse_precision (waiting_of a m) ≡ true
  pub order : ascends (kept_of a m) ≡ true
  pub few : a.pending_len ≤ max_pending
  pub bytes_low : written (kept_of a m) ≤ a.sparse_bytes
  pub bytes_high : a.sparse_bytes ≤ 2147483647
  pub wait : 0 < a.pending_len → a.sparse_bytes + 5 * a.pending_len < limit a.precision

pub record FitDense (a : Accumulator) (m : Mem) : Type 0 where
  pub low : 4 ≤ a.precision
  pub high : a.precision ≤ 24
  pub sparse : 0 < a.sparse_precision
  pub none : NoLists a
  pub room : register_bytes a.precision ≤ length m.registers
  pub small : largest (registers_of a.precision m.registers) ≤ largest_rank a.precision

-- ---- ranges, and the limit

pair_of : (x y z w : ℕ) → leb x y && leb z w ≡ true → (x ≤ y) × (z ≤ w)
pair_of x y z w e = (leb-true x y (both_true (leb x y) (leb z w) e).0, leb-true z w (both_true (leb x y) (leb z w) e).1)

pub range_of : (p : ℕ) → normal_range p ≡ true → (4 ≤ p) × (p ≤ 24)
range_of p e = pair_of 4 p p 24 e

pub ranges_pair : (p s : ℕ) → ranges_fit p s ≡ true → Pair p s
ranges_pair p s e =
    let a = range_of p (both_true (normal_range p) (sparse_range p s) e).0 in
    let b = pair_of p s s 25 (both_true (normal_range p) (sparse_range p s) e).1 in
    record { low = a.0; high = a.1; above = b.0; top = b.1 }

pair_ranges : (p s : ℕ) → Pair p s → ranges_fit p s ≡ true
pair_ranges p s x = both (both (le-leb _ _ x.low) (le-leb _ _ x.high)) (both (le-leb _ _ x.above) (le-leb _ _ x.top))

pub limit_small : (p : ℕ) → p ≤ 24 → limit p ≤ 12582912
limit_small p h = omega (arith, pow_mono (let k : p - 2 ≤ 22 = omega arith in k))

pub limit_code : (p : ℕ) → p ≤ 24 → (3 * ((1 * 2 ^ (p - 2)) % 2 ^ 64) ≡ limit p) × (3 * ((1 * 2 ^ (p - 2)) % 2 ^ 64) ≤ 12582912)
limit_code p h =
    let e : 3 * ((1 * 2 ^ (p - 2)) % 2 ^ 64) ≡ limit p = ap (λ (k : ℕ). 3 * k) (count_is 64 (p - 2) (let l : p - 2 ≤ 24 = omega arith in l) (omega arith)).0 in
    (e, omega (arith, limit_small p h))

-- ---- the counts

no_lists_lem : (a : Accumulator) → no_lists a ≡ true → NoLists a
no_lists_lem a e =
    record {
      no_kept = eqb-true _ _ (both_true (eqb a.sparse_len 0) (eqb a.pending_len 0) e).0;
      no_waiting = eqb-true _ _ (both_true (eqb a.sparse_len 0) (eqb a.pending_len 0) e).1;
    }

no_lists_back : (a : Accumulator) → NoLists a → no_lists a ≡ true
no_lists_back a x = both (eq-eqb _ _ x.no_kept) (eq-eqb _ _ x.no_waiting)

pub wait_none : (a : Accumulator) → a.pending_len ≡ 0 → waiting_fits a ≡ true
wait_none a e =
    ap (λ (t : Bool). t || ltb (a.sparse_bytes + 5 * a.pending_len) (limit a.precision)) (eq-eqb a.pending_len 0 e)

pub wait_some : (a : Accumulator) (bound n : ℕ) → (a.pending_len ≡ 0 → ⊥) → bound ≡ waiting_bound a → n ≡ limit a.precision → ltb bound n ≡ waiting_fits a
wait_some a bound n f b e =
    ap₂ ltb b e ∙ sym (ap (λ (t : Bool). t || ltb (waiting_bound a) (limit a.precision)) (ne_eqb a.pending_len 0 f))

-- "With values waiting": the bound holds where the count is not 0.
bounded : (a : Accumulator) → waiting_fits a ≡ true → 0 < a.pending_len → waiting_bound a < limit a.precision
bounded a e h = ltb-true _ _ (wait_some a _ _ (λ (z : a.pending_len ≡ 0). let n : ⊥ = omega arith in n) refl refl ∙ e)

bounded_back : (a : Accumulator) → (0 < a.pending_len → waiting_bound a < limit a.precision) → waiting_fits a ≡ true
bounded_back a f =
    ⊎_elim
    (λ (h : 0 < a.pending_len).
    sym (wait_some a _ _ (λ (z : a.pending_len ≡ 0). let n : ⊥ = omega arith in n) refl refl) ∙ lt-ltb _ _ (f h))
    (λ (h : a.pending_len ≤ 0). wait_none a (let z : a.pending_len ≡ 0 = omega arith in z)) (side 0 a.pending_len)

pub record Counts (a : Accumulator) (cells waitingCells : ℕ) : Type 0 where
  pub kept_in : a.sparse_len ≤ cells
  pub waiting_in : a.pending_len ≤ waitingCells
  pub few : a.pending_len ≤ max_pending
  pub bytes_high : a.sparse_bytes ≤ 2147483647

module _ (a : Accumulator) (cells waitingCells : ℕ) where
  pub counts_yes : Counts a cells waitingCells → waiting_fits a ≡ counts_fit a cells waitingCells
  unfolding counts_fit
  counts_yes x =
      sym
      (both_yes (waiting_fits a)
      (both (both (both (le-leb _ _ x.kept_in) (le-leb _ _ x.waiting_in)) (le-leb _ _ x.few)) (le-leb _ _ x.bytes_high)))

  counts_all : counts_fit a cells waitingCells ≡ true → Counts a cells waitingCells × (waiting_fits a ≡ true)
  unfolding counts_fit
  counts_all e =
      let c₁ = leb a.sparse_len cells in
      let c₂ = leb a.pending_len waitingCells in
      let c₃ = leb a.pending_len max_pending in
      let c₄ = leb a.sparse_bytes 2147483647 in
      let e₄ = both_true (c₁ && c₂ && c₃ && c₄) (waiting_fits a) e in
      let e₃ = both_true (c₁ && c₂ && c₃) c₄ e₄.0 in
      let e₂ = both_true (c₁ && c₂) c₃ e₃.0 in
      let e₁ = both_true c₁ c₂ e₂.0 in
      (record { kept_in = leb-true _ _ e₁.0; waiting_in = leb-true _ _ e₁.1; few = leb-true _ _ e₂.1; bytes_high = leb-true _ _ e₃.1 }, e₄.1)

  pub counts_of : counts_fit a cells waitingCells ≡ true → Counts a cells waitingCells
  counts_of e = (counts_all e).0

-- ---- the lists

module _ (a : Accumulator) (kept waiting : List ℕ) where
  pub record Lists : Type 0 where
    pub kept_valid : all_valid a.precision a.sparse_precision kept ≡ true
    pub waiting_valid : all_valid a.precision a.sparse_precision waiting ≡ true
    pub order : ascends kept ≡ true

  pub lists_yes : Lists → leb (written kept) a.sparse_bytes ≡ lists_fit a kept waiting
  unfolding lists_fit
  lists_yes x = sym (both_yes (leb (written kept) a.sparse_bytes) (both (both x.kept_valid x.waiting_valid) x.order))

  pub lists_all : lists_fit a kept waiting ≡ true → Lists × (leb (written kept) a.sparse_bytes ≡ true)
  unfolding lists_fit
  lists_all e =
      let c₁ = all_valid a.precision a.sparse_precision kept in
      let c₂ = all_valid a.precision a.sparse_precision waiting in
      let e₃ = both_true (c₁ && c₂ && ascends kept) (leb (written kept) a.sparse_bytes) e in
      let e₂ = both_true (c₁ && c₂) (ascends kept) e₃.0 in
      let e₁ = both_true c₁ c₂ e₂.0 in
      (record { kept_valid = e₁.0; waiting_valid = e₁.1; order = e₂.1 }, e₃.1)

-- ---- all of it, taken apart and put together

module _ (a : Accumulator) (m : Mem) where
  pub fit_none : fits a m ≡ true → a.form ≡ Unstarted → NoLists a
  fit_none e f = no_lists_lem a (sym (fits_form_lem a m Unstarted f) ∙ e)

  pub fit_none_back : a.form ≡ Unstarted → NoLists a → fits a m ≡ true
  fit_none_back f x = fits_form_lem a m Unstarted f ∙ no_lists_back a x

  pub fit_sparse : fits a m ≡ true → a.form ≡ Sparse → FitSparse a m
  fit_sparse e f =
      let r = ranges_fit a.precision a.sparse_precision in
      let c = counts_fit a (length m.sparse) (length m.pending) in
      let l = lists_fit a (kept_of a m) (waiting_of a m) in
      let g : sparse_fits a m ≡ true = sym (fits_form_lem a m Sparse f) ∙ e in
      let h = both_true (r && c) l g in
      let x = counts_all a (length m.sparse) (length m.pending) (both_true r c h.0).1 in
      let y = lists_all a (kept_of a m) (waiting_of a m) h.1 in
      record {
        pair = ranges_pair a.precision a.sparse_precision (both_true r c h.0).0;
        kept_in = x.0.kept_in;
        waiting_in = x.0.waiting_in;
        kept_valid = y.0.kept_valid;
        waiting_valid = y.0.waiting_valid;
        order = y.0.order;
        few = x.0.few;
        bytes_low = leb-true _ _ y.1;
        bytes_high = x.0.bytes_high;
        wait = bounded a x.1;
      }

  pub fit_sparse_back : a.form ≡ Sparse → FitSparse a m → fits a m ≡ true
  fit_sparse_back f x =
      fits_form_lem a m Sparse f
      ∙ both
      (both (pair_ranges a.precision a.sparse_precision x.pair)
      (sym
      (counts_yes a (length m.sparse) (length m.pending)
      (record { kept_in = x.kept_in; waiting_in = x.waiting_in; few = x.few; bytes_high = x.bytes_high }))
      ∙ bounded_back a x.wait))
      (sym (lists_yes a (kept_of a m) (waiting_of a m) (record { kept_valid = x.kept_valid; waiting_valid = x.waiting_valid; order = x.order }))
      ∙ le-leb _ _ x.bytes_low)

  pub fit_dense : fits a m ≡ true → a.form ≡ Dense → FitDense a m
  fit_dense e f =
      let c₁ = normal_range a.precision in
      let c₂ = not (eqb a.sparse_precision 0) in
      let c₃ = leb (register_bytes a.precision) (length m.registers) in
      let c₄ = leb (largest (registers_of a.precision m.registers)) (largest_rank a.precision) in
      let g : dense_fits a m ≡ true = sym (fits_form_lem a m Dense f) ∙ e in
      let e₃ = both_true (c₁ && c₂ && no_lists a) (c₃ && c₄) g in
      let e₂ = both_true (c₁ && c₂) (no_lists a) e₃.0 in
      let e₁ = both_true c₁ c₂ e₂.0 in
      let range = range_of a.precision e₁.0 in
      record {
        low = range.0;
        high = range.1;
        sparse = above_zero a.sparse_precision e₁.1;
        none = no_lists_lem a e₂.1;
        room = leb-true _ _ (both_true c₃ c₄ e₃.1).0;
        small = leb-true _ _ (both_true c₃ c₄ e₃.1).1;
      }

  pub fit_dense_back : a.form ≡ Dense → FitDense a m → fits a m ≡ true
  fit_dense_back f x =
      fits_form_lem a m Dense f
      ∙ both
      (both (both (both (le-leb _ _ x.low) (le-leb _ _ x.high)) (above_zero_back a.sparse_precision x.sparse)) (no_lists_back a x.none))
      (both (le-leb _ _ x.room) (le-leb _ _ x.small))

-- ---- how large the counts are

-- A value is written in a byte or more.
length_written : (p s : ℕ) (l : List ℕ) → Pair p s → ascends l ≡ true → all_valid p s l ≡ true → length l ≤ written l
length_written p s l pair o v = omega (arith, (accepted p s (encode_list l) (decode_encode pair l o v)).fewer, length_encode l)

-- As each value that is kept takes a byte, and few wait, the counts are small.
pub counts_short : {a : Accumulator} {m : Mem} → FitSparse a m → a.sparse_len + a.pending_len ≤ 2147483647
counts_short {a} {m} x =
    let kept = length_written a.precision a.sparse_precision (kept_of a m) x.pair x.order x.kept_valid in
    let len = length-take-le a.sparse_len m.sparse x.kept_in in
    ⊎_elim
    (λ (w : 0 < a.pending_len). omega (arith, limit_small a.precision x.pair.high, kept, len, x.bytes_low, x.wait w))
    (λ (w : a.pending_len ≤ 0). omega (arith, kept, len, x.bytes_low, x.bytes_high))
    (side 0 a.pending_len)

-- Of a head of any form that fits.
pub fit_short : (f : Form) (a : Accumulator) (m : Mem) → a.form ≡ f → fits a m ≡ true → a.sparse_len + a.pending_len ≤ 2147483647
fit_short Unstarted a m f e = let x = fit_none a m e f in omega (arith, x.no_kept, x.no_waiting)
fit_short Sparse a m f e = counts_short (fit_sparse a m e f)
fit_short Dense a m f e = let x = (fit_dense a m e f).none in omega (arith, x.no_kept, x.no_waiting)

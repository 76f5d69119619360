-- Every path, every refusal and every write leaves what fits, where what it began with fits: after it question 1 is answered with yes again.
use Rattle.std.proofs.Common.{◌≡◌, ℕ, suc, ◌+◌, ◌-◌, ◌*◌, ◌/◌, ◌^◌, ◌<◌, ◌≤◌, min, true, false, ltb, leb, List, [], ◌++◌, length, take, replicate, sym, refl, ap, ◌∙◌, subst, pos_of_ne-zero, arith, length-append, length-take, length-take-le, pow_mono, ltb-true, eqb-true, leb-true}
use mathlib.Core.List.{Permᴰ, Memᴰ}
use native.Mathlib.Nat.{max-le, min-le_left, min-le_right}
use lib.ListN.{length-replicate}
use borrow.Author.Tests.{eqb-false}
use Rattle.wire.proofs.BoolLaws.{both_true, either, whichever}
use Rattle.lists.specs.Values.{Pair, register, largest_rank}
use Rattle.lists.specs.Sorting.{ascends}
use Rattle.lists.specs.Lists.{all_valid, written}
use Rattle.lists.specs.Registers.{register_bytes, registers_of, with_registers, zeros, raised_by, raised_lower, larger, lowered, largest}
use Rattle.lists.proofs.MergeLaws.{none_valid, valid_append, valid_perm, merged_ascends, merged_valid}
use Rattle.lists.proofs.RankLaws.{zeros_raised, lower_length, larger_length, lowered_length, valid_inside, valid_inside_lower, valid_ranks, largest_zeros, largest_larger, largest_lowered, largest_raised, largest_raised_lower}
use Rattle.lists.proofs.RegisterLaws.{with_length, with_room, of_with, of_front, fewer_bytes}
use Rattle.rollup.specs.declared.accumulator.Form.{Form}
use Rattle.rollup.specs.declared.accumulator.Form.TheVariants.{Unstarted, Sparse, Dense}
use Rattle.rollup.specs.declared.accumulator.Accumulator.{Accumulator}
use Rattle.rollup.specs.declared.incoming.Incoming.{Incoming}
use Rattle.rollup.specs.Accumulator.{Mem, mem, kept_of, waiting_of, limit, max_pending, fits}
use Rattle.rollup.specs.Header.{is_empty}
use Rattle.rollup.specs.Adding.{refuse, wanted_precision}
use Rattle.rollup.specs.Stages.{TakePre}
use Rattle.rollup.specs.Writing.{WritePost}
use Rattle.rollup.specs.Taking.{After, unchanged, counted, densed, start_list, start_dense, start_after, as_list, settle, waits, inserts, list_path, all_merged, as_waiting, list_after, row_taken, sparse_after, signed_key, raised_to, dense_after, taken_after, Shows}
use Rattle.rollup.proofs.FitLaws.{limit_small, NoLists, FitSparse, FitDense, fit_none, fit_none_back, fit_sparse, fit_sparse_back, fit_dense, fit_dense_back}
use Rattle.rollup.proofs.WaysLaws.{start_ways, settle_ways, list_ways, sparse_ways}

-- ---- values

perm_length : {a b : List ℕ} → Permᴰ a b → length a ≡ length b
perm_length Permᴰ.nil = refl
perm_length (Permᴰ.cons e d) = ap suc (perm_length d)
perm_length (Permᴰ.swap e f) = refl
perm_length (Permᴰ.trans d f) = perm_length d ∙ perm_length f

-- As many values as are asked for are there.
in_list : (k : ℕ) (l : List ℕ) → length (take k l) ≡ k → k ≤ length l
in_list k l e = omega (arith, length-take k l)

-- ---- a list head, and a dense one, that fit

-- What was left is looked at with the head that was to be left.
with_head_lem : (x : After) (r : Accumulator) (n : Mem) → Shows x r n → (Shows x x.head n → fits x.head n ≡ true) → fits r n ≡ true
with_head_lem x r n sh f =
    ap (λ (h : Accumulator). fits h n) sh.head
    ∙ f
    (record {
      head = refl;
      registers = sh.registers;
      kept = subst (λ (h : Accumulator). kept_of h n ≡ x.kept) sh.head sh.kept;
      waiting = subst (λ (h : Accumulator). Permᴰ (waiting_of h n) x.waiting) sh.head sh.waiting;
    })

-- A list, kept in order, with values that wait; and the numbers that a head has of them.
record GoodList (p s len bytes waiting : ℕ) (kept unsorted : List ℕ) : Type 0 where
  pair : Pair p s
  kept_count : len ≡ length kept
  waiting_count : waiting ≡ length unsorted
  kept_valid : all_valid p s kept ≡ true
  waiting_valid : all_valid p s unsorted ≡ true
  order : ascends kept ≡ true
  few : waiting ≤ max_pending
  bytes_low : written kept ≤ bytes
  bytes_high : bytes ≤ 2147483647
  wait : 0 < waiting → bytes + 5 * waiting < limit p

abbrev ListOf : Accumulator → (kept waiting : List ℕ) → Type 0
ListOf h = GoodList h.precision h.sparse_precision h.sparse_len h.sparse_bytes h.pending_len

-- Those of a head that fits, and a list without values that wait.
fit_list : {a : Accumulator} {m : Mem} → FitSparse a m → ListOf a (kept_of a m) (waiting_of a m)
fit_list {a} {m} x =
    record {
      pair = x.pair;
      kept_count = sym (length-take-le a.sparse_len m.sparse x.kept_in);
      waiting_count = sym (length-take-le a.pending_len m.pending x.waiting_in);
      kept_valid = x.kept_valid;
      waiting_valid = x.waiting_valid;
      order = x.order;
      few = x.few;
      bytes_low = x.bytes_low;
      bytes_high = x.bytes_high;
      wait = x.wait;
    }

alone : {p s bytes : ℕ} {l : List ℕ} → Pair p s → all_valid p s l ≡ true → ascends l ≡ true → written l ≤ bytes → bytes ≤ 2147483647
    → GoodList p s (length l) bytes 0 l []
alone {p} {s} pair ok o low high =
    record {
      pair = pair;
      kept_count = refl;
      waiting_count = refl;
      kept_valid = ok;
      waiting_valid = none_valid p s;
      order = o;
      few = omega arith;
      bytes_low = low;
      bytes_high = high;
      wait = λ (h : 0 < 0). absurd (let z : ⊥ = omega arith in z);
    }

list_fits : (x : After) → x.head.form ≡ Sparse → ListOf x.head x.kept x.waiting → (r : Accumulator) (n : Mem) → Shows x r n → fits r n ≡ true
list_fits x form good r n sh =
    let h = x.head in
    with_head_lem x r n sh
    (λ (t : Shows x x.head n).
    fit_sparse_back h n form
    (record {
      pair = good.pair;
      kept_in = in_list h.sparse_len n.sparse (ap length t.kept ∙ sym good.kept_count);
      waiting_in = in_list h.pending_len n.pending (perm_length t.waiting ∙ sym good.waiting_count);
      kept_valid = ap (all_valid h.precision h.sparse_precision) t.kept ∙ good.kept_valid;
      waiting_valid = valid_perm h.precision h.sparse_precision t.waiting good.waiting_valid;
      order = ap ascends t.kept ∙ good.order;
      few = good.few;
      bytes_low = subst (λ (l : List ℕ). written l ≤ h.sparse_bytes) (sym t.kept) good.bytes_low;
      bytes_high = good.bytes_high;
      wait = good.wait;
    }))

-- Of the memory the registers count alone.
dense_fits_lem : (x : After) (m : Mem) → x.registers ≡ m.registers → x.head.form ≡ Dense → FitDense x.head m → (r : Accumulator) (n : Mem) → Shows x r n
    → fits r n ≡ true
dense_fits_lem x m same form fit r n sh =
    let p = x.head.precision in
    with_head_lem x r n sh
    (λ (t : Shows x x.head n).
    let e : m.registers ≡ n.registers = sym (t.registers ∙ same) in
    fit_dense_back x.head n form
    (record {
      low = fit.low;
      high = fit.high;
      sparse = fit.sparse;
      none = fit.none;
      room = subst (λ (l : List ℕ). register_bytes p ≤ length l) e fit.room;
      small = subst (λ (l : List ℕ). largest (registers_of p l) ≤ largest_rank p) e fit.small;
    }))

-- A row of registers that was put in front of bytes.
module _ (h : Accumulator) (none : NoLists h) (form : h.form ≡ Dense) (low : 4 ≤ h.precision) (high : h.precision ≤ 24) (pos : 0 < h.sparse_precision)
    (bytes : List ℕ) (room : register_bytes h.precision ≤ length bytes) (row : List ℕ) (long : length row ≡ 2 ^ h.precision)
    (small : largest row ≤ largest_rank h.precision) where
  row_fits : (r : Accumulator) (n : Mem) → Shows (record { head = h; registers = with_registers h.precision row bytes; kept = []; waiting = [] }) r n
      → fits r n ≡ true
  row_fits =
      let p = h.precision in
      let registers = with_registers p row bytes in
      dense_fits_lem (record { head = h; registers = registers; kept = []; waiting = [] }) (mem registers [] []) refl form
      (record {
        low = low;
        high = high;
        sparse = pos;
        none = none;
        room = with_room p bytes room row long registers refl;
        small = subst (λ (l : List ℕ). largest l ≤ largest_rank p) (sym (of_with p bytes room row long)) small;
      })

-- The values of a list as registers, and lowered registers.
module _ (p s : ℕ) (l : List ℕ) (pair : Pair p s) (ok : all_valid p s l ≡ true) where
  raised_small : largest (raised_by p s (zeros p) l) ≤ largest_rank p
  raised_small =
      largest_raised p s (zeros p) l (largest_rank p)
      (λ (v : ℕ) (i : Memᴰ v l). subst (λ (k : ℕ). register p s v < k) (sym (length-replicate (2 ^ p) 0)) (valid_inside p s l pair ok v i))
      (let h : largest (zeros p) ≤ largest_rank p = omega (arith, largest_zeros (2 ^ p)) in h) (valid_ranks p s l pair ok)

lowered_small : (p q : ℕ) (l : List ℕ) → q ≤ p → p ≤ 24 → largest l ≤ largest_rank p → largest (lowered (p - q) q l) ≤ largest_rank q
lowered_small p q l h k small = omega (arith, largest_lowered (p - q) q l)

-- ---- what is known where a path begins

pub no_data : (l : List ℕ) → is_empty l ≡ true → length l ≡ 0
no_data l e = eqb-true (length l) 0 e

pub some_data : (l : List ℕ) → is_empty l ≡ false → 0 < length l
some_data l e = pos_of_ne-zero (eqb-false (length l) 0 e)

module _ (a : Accumulator) (m : Mem) (room : ℕ) (x : Incoming) (row vs : List ℕ) (pre : TakePre a m room x row vs) where
  pub registers_room : (f : Form) → a.form ≡ f → register_bytes (wanted_precision f a x.precision) ≤ length m.registers
  registers_room f e = subst (λ (g : Form). register_bytes (wanted_precision g a x.precision) ≤ length m.registers) e pre.in_registers

  -- ---- the first

  start_keeps : a.form ≡ Unstarted → (r : Accumulator) (n : Mem) → Shows (start_after m x row vs) r n → fits r n ≡ true
  start_keeps f r n =
      start_ways (λ (y : After). Shows y r n → fits r n ≡ true) m x row vs
      (λ (e : is_empty row ≡ true).
      list_fits (start_list m x vs) refl (alone (pre.pair (no_data row e)) pre.all pre.order pre.bytes_low pre.bytes_high) r n)
      (λ (e : is_empty row ≡ false).
      row_fits (start_dense m x row).head (record { no_kept = refl; no_waiting = refl }) refl pre.low pre.high pre.sparse m.registers
      (registers_room Unstarted f) row (pre.size (some_data row e)) pre.small r n)

  -- ---- a list roll-up

  module _ (sparse : a.form ≡ Sparse) where
    fit : FitSparse a m
    fit = fit_sparse a m pre.fit sparse

    abbrev p : ℕ
    p = a.precision

    abbrev s : ℕ
    s = a.sparse_precision

    abbrev h : Accumulator
    h = counted a x

    pub vs_valid : all_valid a.precision a.sparse_precision vs ≡ true
    vs_valid =
        subst (λ (k : ℕ). all_valid k s vs ≡ true) (pre.same_normal sparse)
        (subst (λ (k : ℕ). all_valid x.precision k vs ≡ true) (pre.same_sparse sparse) pre.all)

    all_valid_lem : all_valid p s (waiting_of a m ++ vs) ≡ true
    all_valid_lem = valid_append p s (waiting_of a m) vs fit.waiting_valid vs_valid

    pub both_valid : all_valid a.precision a.sparse_precision (kept_of a m ++ waiting_of a m) ≡ true
    both_valid = valid_append p s (kept_of a m) (waiting_of a m) fit.kept_valid fit.waiting_valid

    -- It becomes a dense one.
    densed_keeps : (l : List ℕ) → length l ≡ 2 ^ p → largest l ≤ largest_rank p → (r : Accumulator) (n : Mem)
        → Shows (record { head = densed h; registers = with_registers p l m.registers; kept = []; waiting = [] }) r n → fits r n ≡ true
    densed_keeps =
        row_fits (densed h) (record { no_kept = refl; no_waiting = refl }) refl fit.pair.low fit.pair.high
        (let k : 0 < s = omega (arith, fit.pair.low, fit.pair.above) in k) m.registers (registers_room Sparse sparse)

    -- Values that were merged into those kept.
    merge_keeps : (bytes : ℕ) → written (all_merged h m vs) ≤ bytes → (r : Accumulator) (n : Mem)
        → Shows (settle h m.registers (all_merged h m vs) bytes) r n → fits r n ≡ true
    merge_keeps bytes low r n =
        let l = all_merged h m vs in
        let ok = merged_valid p s (kept_of a m) (waiting_of a m ++ vs) fit.kept_valid all_valid_lem in
        settle_ways (λ (y : After). Shows y r n → fits r n ≡ true) h m.registers l bytes
        (λ (e : ltb bytes (limit p) ≡ true).
        list_fits (as_list h m.registers l bytes) refl
        (alone fit.pair ok (merged_ascends p s (kept_of a m) (waiting_of a m ++ vs)) low
        (let k : bytes ≤ 2147483647 = omega (arith, ltb-true bytes (limit p) e, limit_small p fit.pair.high) in k)) r n)
        (λ (e : ltb bytes (limit p) ≡ false).
        densed_keeps (raised_by p s (zeros p) l) (zeros_raised p s l) (raised_small p s l fit.pair ok) r n)

    wait_list : waits a x (length vs) ≡ true → ListOf (as_waiting h m vs).head (kept_of a m) (waiting_of a m ++ vs)
    wait_list e =
        let own = fit_list fit in
        let b = a.sparse_bytes + 5 * a.pending_len + x.growth in
        let w = a.pending_len + length vs in
        let test = both_true (ltb b (limit p)) (leb w x.most) e in
        let below = ltb-true b (limit p) test.0 in
        record {
          pair = own.pair;
          kept_count = own.kept_count;
          waiting_count = ap (λ (k : ℕ). k + length vs) own.waiting_count ∙ sym (length-append (waiting_of a m) vs);
          kept_valid = own.kept_valid;
          waiting_valid = all_valid_lem;
          order = own.order;
          few = omega (arith, leb-true w x.most test.1, pre.most);
          bytes_low = own.bytes_low;
          bytes_high = own.bytes_high;
          wait = λ (k : 0 < w). let g : a.sparse_bytes + 5 * w < limit p = omega (arith, below, pre.growth_low) in g;
        }

    list_keeps : (r : Accumulator) (n : Mem) → Shows (list_after (list_path a (kept_of a m) x (length vs)) h m vs) r n → fits r n ≡ true
    list_keeps r n =
        list_ways (λ (y : After). Shows y r n → fits r n ≡ true) h m vs a x refl
        (λ (e : length vs ≡ 0). list_fits (unchanged h m) sparse (fit_list fit) r n)
        (λ (e : waits a x (length vs) ≡ true). list_fits (as_waiting h m vs) refl (wait_list e) r n)
        (merge_keeps (written (all_merged h m vs)) (omega arith) r n)
        (λ (z : a.pending_len ≡ 0) (e : inserts a (kept_of a m) (length vs) ≡ true).
        merge_keeps (a.sparse_bytes + written (all_merged h m vs) - written (kept_of a m)) (omega (arith, fit.bytes_low)) r n)

    -- The registers of its values and of a row that comes in.
    row_keeps : is_empty row ≡ false → (r : Accumulator) (n : Mem) → Shows (row_taken h m row) r n → fits r n ≡ true
    row_keeps e =
        let both = kept_of a m ++ waiting_of a m in
        let own = raised_by p s (zeros p) both in
        let long = zeros_raised p s both in
        let same = pre.size (some_data row e) ∙ ap (λ (k : ℕ). 2 ^ k) (pre.same_normal sparse) in
        densed_keeps (larger own row) (larger_length own row ∙ long)
        (subst (λ (k : ℕ). k ≤ largest_rank p) (sym (largest_larger own row (long ∙ sym same)))
        (max-le (raised_small p s both fit.pair both_valid)
        (subst (λ (k : ℕ). largest row ≤ largest_rank k) (pre.same_normal sparse) pre.small)))

    sparse_keeps : (r : Accumulator) (n : Mem) → Shows (sparse_after a m x row vs) r n → fits r n ≡ true
    sparse_keeps r n =
        sparse_ways (λ (y : After). Shows y r n → fits r n ≡ true) a m x row vs (λ (e : is_empty row ≡ true). list_keeps r n)
        (λ (e : is_empty row ≡ false). row_keeps e r n)

  -- ---- a dense roll-up

  module _ (dense : a.form ≡ Dense) where
    fit_d : FitDense a m
    fit_d = fit_dense a m pre.fit dense

    abbrev q : ℕ
    q = min a.precision x.precision

    abbrev own : List ℕ
    own = lowered (a.precision - q) q (registers_of a.precision m.registers)

    abbrev given : List ℕ
    given = lowered (x.precision - q) q row

    abbrev freed : List ℕ
    freed = replicate (2 ^ a.precision - 2 ^ q) 0

    q_own : q ≤ a.precision
    q_own = min-le_left a.precision x.precision

    q_given : q ≤ x.precision
    q_given = min-le_right a.precision x.precision

    own_small : largest own ≤ largest_rank q
    own_small = lowered_small a.precision q (registers_of a.precision m.registers) q_own fit_d.high fit_d.small

    own_long : length own ≡ 2 ^ q
    own_long = lowered_length (a.precision - q) q (registers_of a.precision m.registers)

    raised_long : length (raised_to q x row vs own) ≡ 2 ^ q
    raised_long =
        let d = x.precision - q in
        whichever (λ (l : List ℕ). length l ≡ 2 ^ q) (is_empty row) (raised_lower x.precision x.sparse_precision d own vs) (larger own given)
        (lower_length x.precision x.sparse_precision d own vs ∙ own_long) (larger_length own given ∙ own_long)

    by_list : is_empty row ≡ true → largest (raised_lower x.precision x.sparse_precision (x.precision - q) own vs) ≤ largest_rank q
    by_list e =
        let p = x.precision in
        let s = x.sparse_precision in
        let pair = pre.pair (no_data row e) in
        let split : p ≡ q + (p - q) = omega (arith, q_given) in
        let same : largest_rank p + (p - q) ≡ largest_rank q = omega (arith, q_given, pre.high) in
        subst (λ (k : ℕ). largest (raised_lower p s (p - q) own vs) ≤ k) same
        (largest_raised_lower p s (p - q) own vs (largest_rank p)
        (λ (v : ℕ) (i : Memᴰ v vs).
        subst (λ (k : ℕ). register p s v / 2 ^ (p - q) < k) (sym own_long) (valid_inside_lower p s (p - q) q vs split pair pre.all v i))
        (subst (λ (k : ℕ). largest own ≤ k) (sym same) own_small) (valid_ranks p s vs pair pre.all))

    by_row : largest (larger own given) ≤ largest_rank q
    by_row =
        subst (λ (k : ℕ). k ≤ largest_rank q) (sym (largest_larger own given (own_long ∙ sym (lowered_length (x.precision - q) q row))))
        (max-le own_small (lowered_small x.precision q row q_given pre.high pre.small))

    raised_few : largest (raised_to q x row vs own) ≤ largest_rank q
    raised_few =
        either (λ (l : List ℕ). largest l ≤ largest_rank q) (is_empty row) (raised_lower x.precision x.sparse_precision (x.precision - q) own vs)
        (larger own given) by_list (λ (e : is_empty row ≡ false). by_row)

    -- The row with the freed registers, as long as it was.
    whole_long : length (raised_to q x row vs own ++ freed) ≡ 2 ^ a.precision
    whole_long =
        length-append (raised_to q x row vs own) freed
        ∙ ap (λ (k : ℕ). k + length freed) raised_long
        ∙ ap (λ (k : ℕ). 2 ^ q + k) (length-replicate (2 ^ a.precision - 2 ^ q) 0)
        ∙ (let h = pow_mono q_own in let e : 2 ^ q + (2 ^ a.precision - 2 ^ q) ≡ 2 ^ a.precision = omega arith in e)

    dense_keeps : (r : Accumulator) (n : Mem) → Shows (dense_after a m x row vs) r n → fits r n ≡ true
    unfolding dense_after
    dense_keeps =
        let p = a.precision in
        let raised = raised_to q x row vs own in
        let registers = with_registers p (raised ++ freed) m.registers in
        dense_fits_lem (dense_after a m x row vs) (mem registers [] []) refl refl
        (record {
          low = omega (arith, fit_d.low, pre.low);
          high = omega (arith, q_own, fit_d.high);
          sparse =
              whichever (λ (k : ℕ). 0 < k) (ltb (signed_key x.sparse_precision) (signed_key a.sparse_precision)) x.sparse_precision
              a.sparse_precision pre.sparse fit_d.sparse;
          none = record { no_kept = refl; no_waiting = refl };
          room = omega (arith, with_length p m.registers fit_d.room (raised ++ freed) whole_long, fewer_bytes q p q_own, fit_d.room);
          small = subst (λ (l : List ℕ). largest l ≤ largest_rank q) (sym (of_front q p raised freed m.registers raised_long)) raised_few;
        })

  -- ---- whatever the form

  pub taken_keeps : (r : Accumulator) (n : Mem) → Shows (taken_after a.form a m x row vs) r n → fits r n ≡ true
  taken_keeps r n = by_form a.form refl
    where
      by_form : (f : Form) → a.form ≡ f → Shows (taken_after f a m x row vs) r n → fits r n ≡ true
      by_form Unstarted e = start_keeps e r n
      by_form Sparse e = sparse_keeps e r n
      by_form Dense e = dense_keeps e r n

-- ---- a refusal

-- Where nothing changed but the order of the values that wait and cells past the counts.
module _ (a : Accumulator) (m : Mem) (fit : fits a m ≡ true) (answer : ℕ) (r : Accumulator) (n : Mem) (sh : Shows (refuse answer a m).after r n) where
  pub refused_keeps : fits r n ≡ true
  refused_keeps = by_form a.form refl
    where
      by_form : (f : Form) → a.form ≡ f → fits r n ≡ true
      by_form Unstarted e = ap (λ (h : Accumulator). fits h n) sh.head ∙ fit_none_back a n e (fit_none a m fit e)
      by_form Sparse e = list_fits (unchanged a m) e (fit_list (fit_sparse a m fit e)) r n sh
      by_form Dense e = dense_fits_lem (unchanged a m) m refl e (fit_dense a m fit e) r n sh

-- ---- writing

-- A write leaves a head that fits, whether it was refused or not: the values that wait may stand in another order, the rest is the same.
pub write_keeps : (a : Accumulator) (m : Mem) (room : ℕ) (out : List ℕ) (answer len : ℕ) (n : Mem) (after : List ℕ) → fits a m ≡ true
    → WritePost a m room out answer len n after → fits a n ≡ true
write_keeps a m room out answer len n after fit post = refused_keeps a m fit answer a n post.same

-- Registers in memory: how they lie, and the loops over them.
use Rattle.std.proofs.Common.{◌≡◌, ℕ, suc, ◌+◌, ◌-◌, ◌*◌, ◌/◌, ◌%◌, ◌^◌, ◌<◌, ◌≤◌, max, Bool, true, false, cond, not, eqb, ◌⊎◌, List, [], ◌∷◌, ◌++◌, length, get_or, take, drop, set, replicate, sym, refl, ap, ◌∙◌, subst, ap₂, inl, inr, ⊎_elim, append_assoc, append-nil, zero-le, le_trans, le_of_eq, mul-le-mul_right, mod-lt, suc-mul, eq-zero-or-pos, le_antisymm, pos_of_ne-zero, pow-suc, add-sub_cancel, add-one, arith, length-append, length-drop, length-set, take-append-drop, drop_of_length-le, length-take-le, get_or-drop, take_all, drop-cons, get_or-take, take-suc, take_at, get_or-append-add, drop_at, pow_pos, pow_mono, pow-add, shl_exact, shr_lt, le-ltb, lt-ltb, eq-eqb, ne_eqb}
use native.Mathlib.Nat.{max-zero, mul-mod_left}
use borrow.Rule.Slice.PartMut.{put_mid, Post-is}
use Rattle.std.specs.Int.{from_bool}
use lib.ListN.{get_or-append}
use lib.Seq.{set_at, set-append_left}
use lib.Pow.{shl-shr, shr-shr, shr_le, split, high, low}
use lib.Count.{count_leading_zeros, leading_of_zero, leading_length, leading_unique}
use Rattle.std.proofs.lemmas.Bool.{cases_lt as side}
use Rattle.lists.proofs.ValueLaws.{register_plain, register_lt, rank_plain, lowered_twice, wider, lowered_zero, lowered_bits, lowered_bits_le, lowered_register_lem, lowered_register_le, register_zero}
use Rattle.lists.proofs.RankLaws.{max_assoc, larger_length, larger_at, largest_upper, lowered_length, lowered_at_lem, lowered_upper, lowered_least, lowered_agree, raised_with, lower_index, lower_rank, lower_none}
use Rattle.lists.specs.declared.values.Sparse.{Sparse}
use Rattle.lists.specs.Values.{Pair, marked, valid, register, plain_rank, IndexPost, RankPost, lowered_rank, lowered_register}
use Rattle.lists.specs.Registers.{register_bytes, registers_of, with_registers, zeros, raise, larger, lowered_at, lowered, not_zero_count, largest, raised_by, raised_lower, lowered_in_place, offset_rank, HoldsFirst, ReadPost, StorePost, RaisePost, BothHold, ScanPre, ScanPost, LowerPre, BlockPre, BlockPost, DowngradePre, SetListPre}

-- ---- how registers lie: these alone know that a register is a byte

module _ (p : ℕ) (bytes : List ℕ) (room : register_bytes p ≤ length bytes) where
  pub of_length : length (registers_of p bytes) ≡ 2 ^ p
  unfolding register_bytes registers_of
  of_length = length-take-le (2 ^ p) bytes room

  pub with_of : with_registers p (registers_of p bytes) bytes ≡ bytes
  unfolding registers_of with_registers
  with_of = take-append-drop (2 ^ p) bytes

  module _ (regs : List ℕ) (size : length regs ≡ 2 ^ p) where
    pub with_length : length (with_registers p regs bytes) ≡ length bytes
    unfolding register_bytes with_registers
    with_length = omega (arith, length-append regs (drop (2 ^ p) bytes), length-drop (2 ^ p) bytes)

    -- Bytes with other registers hold as many.
    pub with_room : (after : List ℕ) → after ≡ with_registers p regs bytes → register_bytes p ≤ length after
    with_room after e = omega (arith, room, ap length e, with_length)

    pub of_with : registers_of p (with_registers p regs bytes) ≡ regs
    unfolding registers_of with_registers
    of_with = take_at regs (drop (2 ^ p) bytes) (2 ^ p) size

    pub with_with : (other : List ℕ) → with_registers p other (with_registers p regs bytes) ≡ with_registers p other bytes
    unfolding with_registers
    with_with other = ap (λ (l : List ℕ). other ++ l) (drop_at regs (drop (2 ^ p) bytes) (2 ^ p) size)

-- The data bytes of a state are 2^p registers as they lie in memory.
pub row_holds : (p : ℕ) (row : List ℕ) → length row ≡ 2 ^ p → register_bytes p ≤ length row
unfolding register_bytes
row_holds p row e = omega arith

pub bytes_count : (p r : ℕ) → r ≡ 2 ^ p → r ≡ register_bytes p
unfolding register_bytes
bytes_count p r e = e

pub row_registers : (p : ℕ) (row : List ℕ) → length row ≡ 2 ^ p → registers_of p row ≡ row
unfolding registers_of
row_registers p row e = take_all (2 ^ p) row (let h : length row ≤ 2 ^ p = omega arith in h)

-- A byte a register: the bytes that hold them are a state's data.
pub registers_are : (p : ℕ) (bytes : List ℕ) → registers_of p bytes ≡ take (register_bytes p) bytes
unfolding registers_of register_bytes
registers_are p bytes = refl

-- Registers of a lower precision take fewer bytes, and lie in front.
pub fewer_bytes : (q p : ℕ) → q ≤ p → register_bytes q ≤ register_bytes p
unfolding register_bytes
fewer_bytes q p h = pow_mono h

module _ (q p : ℕ) (front rest bytes : List ℕ) (size : length front ≡ 2 ^ q) where
  pub of_front : registers_of q (with_registers p (front ++ rest) bytes) ≡ front
  unfolding registers_of with_registers
  of_front = ap (take (2 ^ q)) (append_assoc front rest (drop (2 ^ p) bytes)) ∙ take_at front (rest ++ drop (2 ^ p) bytes) (2 ^ q) size

  pub with_front : (other : List ℕ) → with_registers q other (with_registers p (front ++ rest) bytes) ≡ with_registers p (other ++ rest) bytes
  unfolding with_registers
  with_front other =
      ap (λ (l : List ℕ). other ++ drop (2 ^ q) l) (append_assoc front rest (drop (2 ^ p) bytes))
      ∙ ap (λ (l : List ℕ). other ++ l) (drop_at front (rest ++ drop (2 ^ p) bytes) (2 ^ q) size)
      ∙ sym (append_assoc other rest (drop (2 ^ p) bytes))

-- A register that the bytes hold is a byte of theirs.
pub held : (i : ℕ) (bytes : List ℕ) → HoldsFirst (i + 1) bytes → i < length bytes
unfolding register_bytes
held i bytes h = omega (arith, h.room, h.within)

pub read_post : (bytes : List ℕ) (i r : ℕ) → r ≡ get_or bytes i 0 → ReadPost bytes i r
unfolding registers_of
read_post bytes i r e =
    record { value = λ (p : ℕ) (room : register_bytes p ≤ length bytes) (h : i < 2 ^ p). e ∙ sym (get_or-take (2 ^ p) bytes i 0 h) }

set_in : (p : ℕ) (bytes : List ℕ) (i r : ℕ) → register_bytes p ≤ length bytes → i < 2 ^ p → set bytes i r ≡ with_registers p (set (registers_of p bytes) i r) bytes
unfolding registers_of with_registers
set_in p bytes i r room h =
    ap (λ (l : List ℕ). set l i r) (sym (take-append-drop (2 ^ p) bytes))
    ∙ set-append_left (take (2 ^ p) bytes) (drop (2 ^ p) bytes) i r (inside p bytes i room h)
  where
    inside : (p : ℕ) (bytes : List ℕ) (i : ℕ) → register_bytes p ≤ length bytes → i < 2 ^ p → i < length (take (2 ^ p) bytes)
    inside p bytes i room h = subst (λ (n : ℕ). i < n) (sym (of_length p bytes room)) h

pub store_post : (bytes : List ℕ) (i r : ℕ) → StorePost bytes i r (set bytes i r)
store_post bytes i r = record { stored = λ (p : ℕ) (room : register_bytes p ≤ length bytes) (h : i < 2 ^ p). set_in p bytes i r room h }

pub raise_post : (bytes : List ℕ) (i r m : ℕ) → m ≡ max (get_or bytes i 0) r → RaisePost bytes i r (set bytes i m)
unfolding registers_of
raise_post bytes i r m e =
    record {
      raised = λ (p : ℕ) (room : register_bytes p ≤ length bytes) (h : i < 2 ^ p).
          set_in p bytes i m room h
          ∙ ap (λ (x : ℕ). with_registers p (set (registers_of p bytes) i x) bytes)
          (e ∙ ap (λ (x : ℕ). max x r) (sym (get_or-take (2 ^ p) bytes i 0 h)));
    }

-- How many registers there are.
pub count_is : (w p : ℕ) → p ≤ 24 → 24 < w → ((1 * 2 ^ p) % 2 ^ w ≡ 2 ^ p) × ((1 * 2 ^ p) % 2 ^ w ≤ 16777216)
count_is w p h g =
    let e : (1 * 2 ^ p) % 2 ^ w ≡ 1 * 2 ^ p = shl_exact {a = 1} 1 p w (omega arith) (omega arith) in
    let l : 2 ^ p ≤ 2 ^ 24 = pow_mono h in (omega arith, omega arith)

-- ---- a loop that puts one register of a row after the other in the place of those before

-- The first i are those of the row.
pub record Done (p : ℕ) (row before after : List ℕ) (i : ℕ) : Type 0 where
  pub size : length row ≡ 2 ^ p
  pub room : register_bytes p ≤ length before
  pub within : i ≤ 2 ^ p
  pub so_far : after ≡ with_registers p (take i row ++ drop i (registers_of p before)) before

pub done_none : (p : ℕ) (row bytes : List ℕ) → length row ≡ 2 ^ p → register_bytes p ≤ length bytes → (i : ℕ) → i ≤ 2 ^ p
    → take i row ≡ take i (registers_of p bytes) → Done p row bytes bytes i
done_none p row bytes size room i h e =
    record {
      size = size;
      room = room;
      within = h;
      so_far =
          sym
          (ap (λ (l : List ℕ). with_registers p (l ++ drop i (registers_of p bytes)) bytes) e
          ∙ ap (λ (l : List ℕ). with_registers p l bytes) (take-append-drop i (registers_of p bytes))
          ∙ with_of p bytes room);
    }

module _ (p : ℕ) (row before after : List ℕ) (i : ℕ) (d : Done p row before after i) where
  front_length : length (take i row) ≡ i
  front_length = length-take-le i row (subst (λ (n : ℕ). i ≤ n) (sym d.size) d.within)

  mixed_length : length (take i row ++ drop i (registers_of p before)) ≡ 2 ^ p
  mixed_length =
      omega (
        arith,
        length-append (take i row) (drop i (registers_of p before)),
        front_length,
        length-drop i (registers_of p before),
        of_length p before d.room,
        d.within,
      )

  pub done_registers : registers_of p after ≡ take i row ++ drop i (registers_of p before)
  done_registers =
      ap (registers_of p) d.so_far ∙ of_with p before d.room (take i row ++ drop i (registers_of p before)) mixed_length

  pub done_room : register_bytes p ≤ length after
  done_room = with_room p before d.room (take i row ++ drop i (registers_of p before)) mixed_length after d.so_far

  pub done_holds : i < 2 ^ p → HoldsFirst (i + 1) after
  done_holds h = record { precision = p; room = done_room; within = omega arith }

  pub done_end : 2 ^ p ≤ i → after ≡ with_registers p row before
  done_end h =
      d.so_far
      ∙ ap₂ (λ (a b : List ℕ). with_registers p (a ++ b) before) (take_all i row (subst (λ (n : ℕ). n ≤ i) (sym d.size) h))
      (drop_of_length-le (registers_of p before) (subst (λ (n : ℕ). n ≤ i) (sym (of_length p before d.room)) h))
      ∙ ap (λ (l : List ℕ). with_registers p l before) (append-nil row)

  -- A register not yet reached is as before.
  pub done_later : (k : ℕ) → i ≤ k → get_or (registers_of p after) k 0 ≡ get_or (registers_of p before) k 0
  done_later k h =
      let e : i + (k - i) ≡ k = omega arith in
      ap (λ (l : List ℕ). get_or l k 0) done_registers
      ∙ ap (λ (n : ℕ). get_or (take i row ++ drop i (registers_of p before)) n 0) (sym (ap (λ (n : ℕ). n + (k - i)) front_length ∙ e))
      ∙ get_or-append-add (take i row) (drop i (registers_of p before)) (k - i) 0
      ∙ get_or-drop i (registers_of p before) (k - i) 0
      ∙ ap (λ (n : ℕ). get_or (registers_of p before) n 0) e

  module _ (inside : i < 2 ^ p) where
    below_before : i < length (registers_of p before)
    below_before = subst (λ (n : ℕ). i < n) (sym (of_length p before d.room)) inside

    below_row : i < length row
    below_row = subst (λ (n : ℕ). i < n) (sym d.size) inside

    set_mixed : set (take i row ++ drop i (registers_of p before)) i (get_or row i 0) ≡ take (i + 1) row ++ drop (i + 1) (registers_of p before)
    set_mixed =
        ap (λ (l : List ℕ). set (take i row ++ l) i (get_or row i 0)) (drop-cons (registers_of p before) i 0 below_before)
        ∙ set_at (take i row) (get_or (registers_of p before) i 0) (drop (suc i) (registers_of p before)) (get_or row i 0) i front_length
        ∙ sym
        (ap (λ (n : ℕ). take n row ++ drop n (registers_of p before)) (add-one i)
        ∙ ap (λ (l : List ℕ). l ++ drop (suc i) (registers_of p before)) (take-suc row i 0 below_row)
        ∙ append_assoc (take i row) (get_or row i 0 ∷ []) (drop (suc i) (registers_of p before)))

    done_set : (m : ℕ) (next : List ℕ) → m ≡ get_or row i 0 → next ≡ with_registers p (set (registers_of p after) i m) after → Done p row before next (i + 1)
    done_set m next e f =
        record {
          size = d.size;
          room = d.room;
          within = omega arith;
          so_far =
              f
              ∙ ap₂ (λ (l : List ℕ) (x : ℕ). with_registers p (set l i x) after) done_registers e
              ∙ ap (λ (l : List ℕ). with_registers p l after) set_mixed
              ∙ ap (with_registers p (take (i + 1) row ++ drop (i + 1) (registers_of p before))) d.so_far
              ∙ with_with p before d.room (take i row ++ drop i (registers_of p before)) mixed_length
              (take (i + 1) row ++ drop (i + 1) (registers_of p before));
        }

    pub done_store : (r : ℕ) (next : List ℕ) → r ≡ get_or row i 0 → StorePost after i r next → Done p row before next (i + 1)
    done_store r next e s = done_set r next e (s.stored p done_room inside)

    pub done_raise : (r : ℕ) (next : List ℕ) → get_or row i 0 ≡ max (get_or (registers_of p before) i 0) r → RaisePost after i r next → Done p row before next (i + 1)
    done_raise r next e s =
        done_set (max (get_or (registers_of p after) i 0) r) next
        (ap (λ (x : ℕ). max x r) (done_later i (le_of_eq refl)) ∙ sym e) (s.raised p done_room inside)

-- ---- the larger of two rows

module _ (p : ℕ) (target source : List ℕ) (both : BothHold p target source) where
  pub max_start : Done p (larger (registers_of p target) (registers_of p source)) target target 0
  max_start =
      done_none p (larger (registers_of p target) (registers_of p source)) target
      (larger_length (registers_of p target) (registers_of p source) ∙ of_length p target both.into.room) both.into.room 0 zero-le refl

  pub max_turn : (after next : List ℕ) (i r : ℕ) → i < 2 ^ p → Done p (larger (registers_of p target) (registers_of p source)) target after i
      → ReadPost source i r → RaisePost after i r next → Done p (larger (registers_of p target) (registers_of p source)) target next (i + 1)
  max_turn after next i r h d read raised =
      done_raise p (larger (registers_of p target) (registers_of p source)) target after i d h r next
      (larger_at (registers_of p target) (registers_of p source) (of_length p target both.into.room ∙ sym (of_length p source both.from.room)) i
      ∙ ap (λ (x : ℕ). max (get_or (registers_of p target) i 0) x) (sym (read.value p both.from.room h))) raised

pub first_held : (p i : ℕ) (bytes : List ℕ) → register_bytes p ≤ length bytes → i < 2 ^ p → HoldsFirst (i + 1) bytes
first_held p i bytes room h = record { precision = p; room = room; within = omega arith }

-- ---- all registers at once

-- Zeros, or another row, in the place of the bytes of the registers.
pub cleared : (p n : ℕ) (bytes front : List ℕ) → n ≡ register_bytes p → front ≡ replicate n 0 → front ++ drop n bytes ≡ with_registers p (zeros p) bytes
unfolding register_bytes with_registers
cleared p n bytes front e f = ap₂ (λ (l : List ℕ) (k : ℕ). l ++ drop k bytes) (f ∙ ap (λ (k : ℕ). replicate k 0) e) e

pub loaded : (p n : ℕ) (bytes source front : List ℕ) → n ≡ register_bytes p → front ≡ take n source → front ++ drop n bytes ≡ with_registers p (registers_of p source) bytes
unfolding register_bytes with_registers registers_of
loaded p n bytes source front e f = ap₂ (λ (l : List ℕ) (k : ℕ). l ++ drop k bytes) (f ∙ ap (λ (k : ℕ). take k source) e) e

-- ---- counting and the largest

pub record CountingNotZero (regs : List ℕ) (count i : ℕ) : Type 0 where
  pub few : count ≤ i
  pub sum : count + not_zero_count (drop i regs) ≡ not_zero_count regs

pub count_none : (regs : List ℕ) → CountingNotZero regs 0 0
count_none regs = record { few = zero-le; sum = let e : 0 + not_zero_count regs ≡ not_zero_count regs = omega arith in e }

pub count_turn : (regs : List ℕ) (count i x r : ℕ) → i < length regs → r ≡ get_or regs i 0 → x ≡ from_bool (not (eqb r 0)) → CountingNotZero regs count i
    → CountingNotZero regs (count + x) (i + 1)
unfolding not_zero_count
count_turn regs count i x r h e f w =
    record {
      few = ⊎_elim (λ (z : r ≡ 0). omega (arith, w.few, none z)) (λ (z : 0 < r). omega (arith, w.few, one z)) (eq-zero-or-pos r);
      sum = ap (λ (n : ℕ). count + x + not_zero_count (drop n regs)) (add-one i) ∙ by_test (eq-zero-or-pos r);
    }
  where
    whole : count + not_zero_count (get_or regs i 0 ∷ drop (suc i) regs) ≡ not_zero_count regs
    whole = ap (λ (l : List ℕ). count + not_zero_count l) (sym (drop-cons regs i 0 h)) ∙ w.sum

    none : r ≡ 0 → x ≡ 0
    none z = f ∙ ap (λ (t : Bool). from_bool (not t)) (eq-eqb r 0 z)

    one : 0 < r → x ≡ 1
    one z = f ∙ ap (λ (t : Bool). from_bool (not t)) (ne_eqb r 0 (λ (y : r ≡ 0). omega arith))

    by_test : (r ≡ 0) ⊎ (0 < r) → count + x + not_zero_count (drop (suc i) regs) ≡ not_zero_count regs
    by_test (inl z) =
        let a = none z in
        let b : not_zero_count (get_or regs i 0 ∷ drop (suc i) regs) ≡ not_zero_count (drop (suc i) regs) = rw (eq-eqb (get_or regs i 0) 0 (sym e ∙ z)) refl in
        omega (arith, whole, a, b)
    by_test (inr z) =
        let n : r ≡ 0 → ⊥ = λ (y : r ≡ 0). omega arith in
        let a = one z in
        let b : not_zero_count (get_or regs i 0 ∷ drop (suc i) regs) ≡ 1 + not_zero_count (drop (suc i) regs) = rw (ne_eqb (get_or regs i 0) 0 (λ (y : get_or regs i 0 ≡ 0). n (e ∙ y))) refl in
        omega (arith, whole, a, b)

pub count_end : (regs : List ℕ) (count i : ℕ) → length regs ≤ i → CountingNotZero regs count i → count ≡ not_zero_count regs
unfolding not_zero_count
count_end regs count i h w =
    (let e : count ≡ count + 0 = omega arith in e) ∙ ap (λ (l : List ℕ). count + not_zero_count l) (sym (drop_of_length-le regs h)) ∙ w.sum

pub top_turn : (regs : List ℕ) (top i m r : ℕ) → i < length regs → r ≡ get_or regs i 0 → m ≡ max top r → max top (largest (drop i regs)) ≡ largest regs
    → max m (largest (drop (i + 1) regs)) ≡ largest regs
unfolding largest
top_turn regs top i m r h e f w =
    ap₂ (λ (x n : ℕ). max x (largest (drop n regs))) (f ∙ ap (max top) e) (add-one i)
    ∙ max_assoc top (get_or regs i 0) (largest (drop (suc i) regs))
    ∙ ap (λ (l : List ℕ). max top (largest l)) (sym (drop-cons regs i 0 h))
    ∙ w

pub top_end : (regs : List ℕ) (top i : ℕ) → length regs ≤ i → max top (largest (drop i regs)) ≡ largest regs → top ≡ largest regs
unfolding largest
top_end regs top i h w = sym (max-zero top) ∙ ap (λ (l : List ℕ). max top (largest l)) (sym (drop_of_length-le regs h)) ∙ w

-- ---- searching

pub record Scanned (bytes : List ℕ) (from to i : ℕ) : Type 0 where
  pub low : from ≤ i
  pub high : i ≤ to
  pub none : (p x : ℕ) → register_bytes p ≤ length bytes → to ≤ 2 ^ p → from ≤ x → x < i → get_or (registers_of p bytes) x 0 ≡ 0

pub scan_none : (bytes : List ℕ) (from to : ℕ) → from ≤ to → Scanned bytes from to from
scan_none bytes from to h =
    record {
      low = le_of_eq refl;
      high = h;
      none = λ (p x : ℕ) (room : register_bytes p ≤ length bytes) (w : to ≤ 2 ^ p) (a : from ≤ x) (b : x < from). absurd (let z : ⊥ = omega arith in z);
    }

pub scan_turn : (bytes : List ℕ) (from to i r : ℕ) → i < to → ReadPost bytes i r → r ≡ 0 → Scanned bytes from to i → Scanned bytes from to (i + 1)
scan_turn bytes from to i r h read z s =
    record {
      low = omega (arith, s.low);
      high = omega arith;
      none = λ (p x : ℕ) (room : register_bytes p ≤ length bytes) (w : to ≤ 2 ^ p) (a : from ≤ x) (b : x < i + 1).
          ⊎_elim (λ (c : x < i). s.none p x room w a c)
          (λ (c : i ≤ x).
          let e : x ≡ i = omega arith in
          ap (λ (n : ℕ). get_or (registers_of p bytes) n 0) e ∙ sym (read.value p room (let g : i < 2 ^ p = omega arith in g)) ∙ z) (side x i);
    }

pub scan_found : (bytes : List ℕ) (from to i r : ℕ) → i < to → ReadPost bytes i r → (r ≡ 0 → ⊥) → Scanned bytes from to i → ScanPost bytes from to i
scan_found bytes from to i r h read z s =
    record {
      low = s.low;
      high = s.high;
      none = s.none;
      found = λ (p : ℕ) (room : register_bytes p ≤ length bytes) (w : to ≤ 2 ^ p) (l : i < to).
          subst (λ (n : ℕ). 0 < n) (read.value p room (let g : i < 2 ^ p = omega arith in g))
          (pos_of_ne-zero z);
    }

pub scan_end : (bytes : List ℕ) (from to i : ℕ) → to ≤ i → Scanned bytes from to i → ScanPost bytes from to i
scan_end bytes from to i h s =
    record {
      low = s.low;
      high = s.high;
      none = s.none;
      found = λ (p : ℕ) (room : register_bytes p ≤ length bytes) (w : to ≤ 2 ^ p) (l : i < to). absurd (let z : ⊥ = omega arith in z);
    }

-- ---- one register of those lowered

-- A larger number has no more leading zeros.
pub zeros_fall : (k a b : ℕ) → a ≤ b → b < 2 ^ k → count_leading_zeros k b ≤ count_leading_zeros k a
zeros_fall k a b h l =
    let s = leading_length k a (let g : a < 2 ^ k = omega arith in g) in
    let t = leading_length k b l in
    ⊎_elim
    (λ (c : t.0 < s.0).
    let m : 2 ^ suc t.0 ≤ 2 ^ s.0 = pow_mono c in
    absurd (let z : ⊥ = omega (arith, m, pow-suc 2 t.0, s.3, t.2) in z)) (λ (c : s.0 ≤ t.0). omega (arith, s.1, t.1)) (side t.0 s.0)

offset_in : (d o : ℕ) → o < 2 ^ d → offset_rank d o ≡ 1 + count_leading_zeros d o
unfolding offset_rank
offset_in d o h = ap (λ (t : Bool). cond t (1 + count_leading_zeros d o) 0) (lt-ltb o (2 ^ d) h)

offset_past : (d o : ℕ) → 2 ^ d ≤ o → offset_rank d o ≡ 0
unfolding offset_rank
offset_past d o h = ap (λ (t : Bool). cond t (1 + count_leading_zeros d o) 0) (le-ltb o (2 ^ d) h)

-- As the code has it.
pub offset_zeros : (d o : ℕ) → d ≤ 24 → o ≤ 2 ^ d → count_leading_zeros 32 o + d ≡ 31 + offset_rank d o
offset_zeros d o h l =
    ⊎_elim
    (λ (c : o < 2 ^ d).
    let w : 32 - d + count_leading_zeros d o ≡ count_leading_zeros 32 o = wider (32 - d) d o c ∙ ap (λ (n : ℕ). count_leading_zeros n o) (let e : 32 - d + d ≡ 32 = omega arith in e) in
    omega (arith, w, offset_in d o c))
    (λ (c : 2 ^ d ≤ o).
    let e : o ≡ 2 ^ d = omega arith in
    let u : 31 - d ≡ count_leading_zeros 32 o = leading_unique 32 o (31 - d) (suc d) (omega arith) (omega (arith, e, pow-suc 2 d, pow_pos d)) (omega (arith, e, pow-suc 2 d)) in
    omega (arith, u, offset_past d o c)) (side o (2 ^ d))

-- The block's first register, where it is not zero, gives more than any other.
module _ (regs : List ℕ) (d t : ℕ) (some : 0 < get_or regs (t * 2 ^ d) 0) where
  first_lowered : lowered_register d (t * 2 ^ d) (get_or regs (t * 2 ^ d) 0) ≡ get_or regs (t * 2 ^ d) 0 + d
  first_lowered =
      lowered_register_lem d (t * 2 ^ d) (get_or regs (t * 2 ^ d) 0) some
      ∙ lowered_zero d (t * 2 ^ d) (get_or regs (t * 2 ^ d) 0) (mul-mod_left t (2 ^ d))

  first_upper : (k : ℕ) → k / 2 ^ d ≡ t → lowered_register d k (get_or regs k 0) ≤ get_or regs (t * 2 ^ d) 0 + d
  first_upper k e =
      let s : t * 2 ^ d + k % 2 ^ d ≡ k = ap (λ (n : ℕ). n * 2 ^ d + k % 2 ^ d) (sym e) ∙ split k d in
      ⊎_elim
      (λ (o : k % 2 ^ d ≡ 0).
      let f : k ≡ t * 2 ^ d = omega arith in
      le_of_eq (ap (λ (n : ℕ). lowered_register d n (get_or regs n 0)) f ∙ first_lowered))
      (λ (o : 0 < k % 2 ^ d). omega (arith, lowered_register_le d k (get_or regs k 0), lowered_bits_le d k (get_or regs k 0) o)) (eq-zero-or-pos (k % 2 ^ d))

  first_decides : get_or regs (t * 2 ^ d) 0 + d ≡ lowered_at d 0 regs t
  first_decides =
      le_antisymm (le_trans (le_of_eq (sym first_lowered)) (lowered_upper d t regs (t * 2 ^ d) (shl-shr t d)))
      (lowered_least d t regs (get_or regs (t * 2 ^ d) 0 + d) first_upper)

-- Where the block's first register is zero, the first that is not gives more than any other.
module _ (regs : List ℕ) (d t at : ℕ) (after : t * 2 ^ d + 1 ≤ at) (before : at ≤ t * 2 ^ d + 2 ^ d)
    (none : (x : ℕ) → t * 2 ^ d ≤ x → x < at → get_or regs x 0 ≡ 0) (found : at < t * 2 ^ d + 2 ^ d → 0 < get_or regs at 0) where
  -- A register o > 0 places after the block's first, which is not zero.
  at_offset : (k : ℕ) → k / 2 ^ d ≡ t → 0 < k % 2 ^ d → 0 < get_or regs k 0 → lowered_register d k (get_or regs k 0) ≡ 1 + count_leading_zeros d (k % 2 ^ d)
  at_offset k e o h = lowered_register_lem d k (get_or regs k 0) h ∙ lowered_bits d k (get_or regs k 0) o

  block_upper : (k : ℕ) → k / 2 ^ d ≡ t → lowered_register d k (get_or regs k 0) ≤ offset_rank d (at - t * 2 ^ d)
  block_upper k e =
      let s : t * 2 ^ d + k % 2 ^ d ≡ k = ap (λ (n : ℕ). n * 2 ^ d + k % 2 ^ d) (sym e) ∙ split k d in
      let m : k % 2 ^ d < 2 ^ d = mod-lt k (pow_pos d) in
      ⊎_elim
      (λ (z : get_or regs k 0 ≡ 0).
      subst (λ (n : ℕ). n ≤ offset_rank d (at - t * 2 ^ d)) (sym (ap (lowered_register d k) z ∙ register_zero d k)) zero-le)
      (λ (h : 0 < get_or regs k 0).
      ⊎_elim
      (λ (c : k < at). absurd (let z : ⊥ = omega (arith, none k (omega arith) c) in z))
      (λ (c : at ≤ k).
      let l : at - t * 2 ^ d ≤ k % 2 ^ d = omega arith in
      let g : at - t * 2 ^ d < 2 ^ d = omega arith in
      let o : 0 < k % 2 ^ d = omega arith in
      le_trans (le_of_eq (at_offset k e o h))
      (let q : 1 + count_leading_zeros d (k % 2 ^ d) ≤ offset_rank d (at - t * 2 ^ d) = omega (arith, zeros_fall d (at - t * 2 ^ d) (k % 2 ^ d) l m, offset_in d (at - t * 2 ^ d) g) in q))
      (side k at)) (eq-zero-or-pos (get_or regs k 0))

  offset_lands : offset_rank d (at - t * 2 ^ d) ≤ lowered_at d 0 regs t
  offset_lands =
      ⊎_elim
      (λ (g : at - t * 2 ^ d < 2 ^ d).
      let f : t * 2 ^ d + (at - t * 2 ^ d) ≡ at = omega arith in
      let q : at / 2 ^ d ≡ t = ap (λ (n : ℕ). n / 2 ^ d) (sym f) ∙ high t d g in
      let r : at % 2 ^ d ≡ at - t * 2 ^ d = ap (λ (n : ℕ). n % 2 ^ d) (sym f) ∙ low t d g in
      let o : 0 < at % 2 ^ d = omega arith in
      let l : at < t * 2 ^ d + 2 ^ d = omega arith in
      le_trans (le_of_eq (offset_in d (at - t * 2 ^ d) g ∙ ap (λ (n : ℕ). 1 + count_leading_zeros d n) (sym r) ∙ sym (at_offset at q o (found l))))
      (lowered_upper d t regs at q))
      (λ (g : 2 ^ d ≤ at - t * 2 ^ d). subst (λ (n : ℕ). n ≤ lowered_at d 0 regs t) (sym (offset_past d (at - t * 2 ^ d) g)) zero-le)
      (side (at - t * 2 ^ d) (2 ^ d))

  block_lowered : offset_rank d (at - t * 2 ^ d) ≡ lowered_at d 0 regs t
  block_lowered = le_antisymm offset_lands (lowered_least d t regs (offset_rank d (at - t * 2 ^ d)) block_upper)

-- The block of a register lies in the registers.
pub block_within : (p d t : ℕ) → d ≤ p → t < 2 ^ (p - d) → t * 2 ^ d + 2 ^ d ≤ 2 ^ p
block_within p d t h l =
    let m : suc t * 2 ^ d ≤ 2 ^ (p - d) * 2 ^ d = mul-le-mul_right (2 ^ d) l in
    let e : 2 ^ (p - d) * 2 ^ d ≡ 2 ^ p = sym (pow-add 2 (p - d) d) ∙ ap (λ (n : ℕ). 2 ^ n) (let f : p - d + d ≡ p = omega arith in f) in
    omega (arith, m, e, suc-mul t (2 ^ d))

module _ (bytes : List ℕ) (d t first : ℕ) (read : ReadPost bytes (t * 2 ^ d) first) where
  first_is : (p : ℕ) → register_bytes p ≤ length bytes → d ≤ p → t < 2 ^ (p - d) → first ≡ get_or (registers_of p bytes) (t * 2 ^ d) 0
  first_is p room h l = read.value p room (let i : t * 2 ^ d < 2 ^ p = omega (arith, block_within p d t h l, pow_pos d) in i)

  first_post : 0 < first → BlockPost bytes d t (first + d)
  first_post some =
      record {
        value = λ (p : ℕ) (room : register_bytes p ≤ length bytes) (h : d ≤ p) (l : t < 2 ^ (p - d)).
            let e = first_is p room h l in
            ap (λ (n : ℕ). n + d) e ∙ first_decides (registers_of p bytes) d t (subst (λ (n : ℕ). 0 < n) e some);
      }

  block_post : (r at : ℕ) → first ≡ 0 → ScanPost bytes (t * 2 ^ d + 1) (t * 2 ^ d + 2 ^ d) at → r ≡ offset_rank d (at - t * 2 ^ d) → BlockPost bytes d t r
  block_post r at z scan f =
      record {
        value = λ (p : ℕ) (room : register_bytes p ≤ length bytes) (h : d ≤ p) (l : t < 2 ^ (p - d)).
            let w = block_within p d t h l in
            f
            ∙ block_lowered (registers_of p bytes) d t at scan.low scan.high
            (λ (x : ℕ) (a : t * 2 ^ d ≤ x) (b : x < at).
            ⊎_elim (λ (c : t * 2 ^ d < x). scan.none p x room w (omega arith) b)
            (λ (c : x ≤ t * 2 ^ d).
            let e : x ≡ t * 2 ^ d = omega arith in
            ap (λ (n : ℕ). get_or (registers_of p bytes) n 0) e ∙ sym (first_is p room h l) ∙ z) (side (t * 2 ^ d) x)) (scan.found p room w);
      }

-- As the code has it, with the block's length in a variable.
module _ (bytes : List ℕ) (d t block : ℕ) (pre : BlockPre d t bytes) (size : block ≡ 2 ^ d) where
  code_within : t * block + block ≤ 2 ^ pre.precision
  code_within = subst (λ (b : ℕ). t * b + b ≤ 2 ^ pre.precision) (sym size) (block_within pre.precision d t pre.fewer pre.below)

  code_first : t * block + 1 ≤ 2 ^ pre.precision
  code_first = omega (arith, code_within, size, pow_pos d)

  pub code_read : HoldsFirst (t * block + 1) bytes
  code_read = record { precision = pre.precision; room = pre.holds.room; within = code_first }

  pub code_small : (first : ℕ) → ReadPost bytes (t * block) first → first + d < 256
  code_small first read =
      let e = read.value pre.precision pre.holds.room (let h : t * block < 2 ^ pre.precision = omega (arith, code_first) in h) in
      let f : get_or (registers_of pre.precision bytes) (t * block) 0 ≡ get_or (registers_of pre.precision bytes) (t * 2 ^ d) 0 =
      ap (λ (b : ℕ). get_or (registers_of pre.precision bytes) (t * b) 0) size in
      omega (arith, e, f, pre.small)

  pub code_scan : ScanPre (t * block + 1) (t * block + block) bytes
  code_scan =
      record {
        order = omega (arith, size, pow_pos d);
        holds = record { precision = pre.precision; room = pre.holds.room; within = code_within };
      }

  pub code_decides : (first : ℕ) → ReadPost bytes (t * block) first → (first ≡ 0 → ⊥) → BlockPost bytes d t (first + d)
  code_decides first read some =
      first_post bytes d t first (subst (λ (b : ℕ). ReadPost bytes (t * b) first) size read)
      (pos_of_ne-zero some)

  pub code_block : (first r at : ℕ) → ReadPost bytes (t * block) first → first ≡ 0 → ScanPost bytes (t * block + 1) (t * block + block) at
      → r ≡ offset_rank d (at - t * block) → BlockPost bytes d t r
  code_block first r at read z scan f =
      block_post bytes d t first (subst (λ (b : ℕ). ReadPost bytes (t * b) first) size read) r at z
      (subst (λ (b : ℕ). ScanPost bytes (t * b + 1) (t * b + b) at) size scan) (f ∙ ap (λ (b : ℕ). offset_rank d (at - t * b)) size)

-- ---- lowering into other registers

module _ (q d : ℕ) (source target : List ℕ) (pre : DowngradePre q d source target) where
  pub downgrade_start : Done q (larger (registers_of q target) (lowered d q (registers_of (q + d) source))) target target 0
  downgrade_start =
      done_none q (larger (registers_of q target) (lowered d q (registers_of (q + d) source))) target
      (larger_length (registers_of q target) (lowered d q (registers_of (q + d) source)) ∙ of_length q target pre.into.room) pre.into.room 0 zero-le refl

  pub downgrade_block : (t : ℕ) → t < 2 ^ q → BlockPre d t source
  downgrade_block t h =
      record {
        precision = q + d;
        holds = pre.from.holds;
        fewer = omega arith;
        below = subst (λ (n : ℕ). t < 2 ^ n) (sym (add-sub_cancel q d)) h;
        small = let u = largest_upper (registers_of (q + d) source) (t * 2 ^ d) in omega (arith, u, pre.from.small);
      }

  pub downgrade_turn : (after next : List ℕ) (t r : ℕ) → t < 2 ^ q
      → Done q (larger (registers_of q target) (lowered d q (registers_of (q + d) source))) target after t → BlockPost source d t r → RaisePost after t r next
      → Done q (larger (registers_of q target) (lowered d q (registers_of (q + d) source))) target next (t + 1)
  downgrade_turn after next t r h done block raised =
      done_raise q (larger (registers_of q target) (lowered d q (registers_of (q + d) source))) target after t done h r next
      (larger_at (registers_of q target) (lowered d q (registers_of (q + d) source))
      (of_length q target pre.into.room ∙ sym (lowered_length d q (registers_of (q + d) source))) t
      ∙ ap (λ (x : ℕ). max (get_or (registers_of q target) t 0) x)
      (lowered_at_lem d q (registers_of (q + d) source) t h
      ∙ sym (block.value (q + d) pre.from.holds.room (omega arith) (subst (λ (n : ℕ). t < 2 ^ n) (sym (add-sub_cancel q d)) h)))) raised

-- ---- lowering in place

module _ (p d : ℕ) (before : List ℕ) (pre : LowerPre p d before) where
  pub fewer_le : 2 ^ (p - d) ≤ 2 ^ p
  fewer_le = pow_mono (let h : p - d ≤ p = omega arith in h)

  pub lower_start : Done p (lowered d (p - d) (registers_of p before) ++ drop (2 ^ (p - d)) (registers_of p before)) before before 0
  lower_start =
      done_none p (lowered d (p - d) (registers_of p before) ++ drop (2 ^ (p - d)) (registers_of p before)) before
      (omega (
        arith,
        length-append (lowered d (p - d) (registers_of p before)) (drop (2 ^ (p - d)) (registers_of p before)),
        lowered_length d (p - d) (registers_of p before),
        length-drop (2 ^ (p - d)) (registers_of p before),
        of_length p before pre.holds.room,
        fewer_le,
      )) pre.holds.room 0 zero-le refl

  module _ (after : List ℕ) (t : ℕ) (below : t < 2 ^ (p - d))
      (done : Done p (lowered d (p - d) (registers_of p before) ++ drop (2 ^ (p - d)) (registers_of p before)) before after t) where
    -- A block is not before the register that it lands on.
    block_later : (k : ℕ) → k / 2 ^ d ≡ t → t ≤ k
    block_later k e = subst (λ (n : ℕ). n ≤ k) e (shr_le k d)

    lower_inside : t < 2 ^ p
    lower_inside = omega (arith, fewer_le)

    lower_room : register_bytes p ≤ length after
    lower_room = done_room p (lowered d (p - d) (registers_of p before) ++ drop (2 ^ (p - d)) (registers_of p before)) before after t done

    pub lower_block : BlockPre d t after
    lower_block =
        let e = done_later p (lowered d (p - d) (registers_of p before) ++ drop (2 ^ (p - d)) (registers_of p before)) before after t done (t * 2 ^ d)
        (block_later (t * 2 ^ d) (shl-shr t d)) in
        let u = largest_upper (registers_of p before) (t * 2 ^ d) in
        record {
          precision = p;
          holds = record { high = pre.holds.high; room = lower_room };
          fewer = pre.fewer;
          below = below;
          small = omega (arith, e, u, pre.small);
        }

    pub lower_turn : (next : List ℕ) (r : ℕ) → BlockPost after d t r → StorePost after t r next
        → Done p (lowered d (p - d) (registers_of p before) ++ drop (2 ^ (p - d)) (registers_of p before)) before next (t + 1)
    lower_turn next r block stored =
        done_store p (lowered d (p - d) (registers_of p before) ++ drop (2 ^ (p - d)) (registers_of p before)) before after t done lower_inside r next
        (block.value p lower_room pre.fewer below
        ∙ lowered_agree d t (registers_of p after) (registers_of p before)
        (λ (k : ℕ) (e : k / 2 ^ d ≡ t).
        done_later p (lowered d (p - d) (registers_of p before) ++ drop (2 ^ (p - d)) (registers_of p before)) before after t done k (block_later k e))
        ∙ sym (lowered_at_lem d (p - d) (registers_of p before) t below)
        ∙ sym
        (get_or-append (lowered d (p - d) (registers_of p before)) (drop (2 ^ (p - d)) (registers_of p before)) 0 t
        (subst (λ (n : ℕ). t < n) (sym (lowered_length d (p - d) (registers_of p before))) below))) stored

    pub lower_holds : HoldsFirst (t + 1) after
    lower_holds =
        done_holds p (lowered d (p - d) (registers_of p before) ++ drop (2 ^ (p - d)) (registers_of p before)) before after t done lower_inside

  pub lower_end : (after : List ℕ) (t : ℕ) → t ≡ 2 ^ (p - d)
      → Done p (lowered d (p - d) (registers_of p before) ++ drop (2 ^ (p - d)) (registers_of p before)) before after t
      → after ≡ with_registers p (lowered d (p - d) (registers_of p before) ++ drop (2 ^ (p - d)) (registers_of p before)) before
  lower_end after t e done =
      done.so_far
      ∙ ap
      (λ (n : ℕ).
      with_registers p (take n (lowered d (p - d) (registers_of p before) ++ drop (2 ^ (p - d)) (registers_of p before)) ++ drop n (registers_of p before))
      before) e
      ∙ ap (λ (l : List ℕ). with_registers p (l ++ drop (2 ^ (p - d)) (registers_of p before)) before)
      (take_at (lowered d (p - d) (registers_of p before)) (drop (2 ^ (p - d)) (registers_of p before)) (2 ^ (p - d))
      (lowered_length d (p - d) (registers_of p before)))

  -- Lowered, and the bytes that are freed made zero.
  pub lower_whole : (after freed : List ℕ) (m n : ℕ) → m ≡ register_bytes (p - d) → n ≡ register_bytes p
      → after ≡ with_registers p (lowered d (p - d) (registers_of p before) ++ drop (2 ^ (p - d)) (registers_of p before)) before
      → freed ≡ replicate (n - m) 0 → put_mid m (n - m) after freed ≡ with_registers p (lowered_in_place p (p - d) (registers_of p before)) before
  unfolding register_bytes with_registers registers_of
  lower_whole after freed m n a b e f =
      let q = p - d in
      let row = lowered d q (registers_of p before) in
      let rest = drop (2 ^ q) (registers_of p before) in
      let past = drop (2 ^ p) before in
      let small : m ≤ n = omega (arith, a, b, fewer_le) in
      let front : take m after ≡ row = ap₂ (λ (k : ℕ) (l : List ℕ). take k l) a e ∙ of_front q p row rest before (lowered_length d q (registers_of p before)) in
      let back : drop n after ≡ past = ap₂ (λ (k : ℕ) (l : List ℕ). drop k l) b e ∙ drop_at (row ++ rest) past (2 ^ p) lower_start.size in
      ap₂ (λ (l r : List ℕ). l ++ (freed ++ r)) front (Post-is m n after small ∙ back)
      ∙ sym (append_assoc row freed past)
      ∙ ap (λ (l : List ℕ). (row ++ l) ++ past) (f ∙ ap₂ (λ (k j : ℕ). replicate (k - j) 0) b a)
      ∙ ap (λ (k : ℕ). (lowered k q (registers_of p before) ++ replicate (2 ^ p - 2 ^ q) 0) ++ past) (let g : d ≡ p - (p - d) = omega (arith, pre.fewer) in g)

-- ---- setting the values of a list

-- The values passed are set, and those left raise the registers to those of the whole list.
pub record Setting (q : ℕ) (ix rk : ℕ → ℕ) (list before after : List ℕ) (i : ℕ) : Type 0 where
  pub room : register_bytes q ≤ length before
  pub same : after ≡ with_registers q (registers_of q after) before
  pub whole : raised_with ix rk (registers_of q before) list ≡ raised_with ix rk (registers_of q after) (drop i list)
  pub size : length after ≡ length before

pub setting_none : (q : ℕ) (ix rk : ℕ → ℕ) (list bytes : List ℕ) → register_bytes q ≤ length bytes → Setting q ix rk list bytes bytes 0
setting_none q ix rk list bytes room = record { room = room; same = sym (with_of q bytes room); whole = refl; size = refl }

module _ (q : ℕ) (ix rk : ℕ → ℕ) (list before after : List ℕ) (i : ℕ) (w : Setting q ix rk list before after i) where
  pub setting_room : register_bytes q ≤ length after
  setting_room = subst (λ (n : ℕ). register_bytes q ≤ n) (sym w.size) w.room

  raised_size : (v : ℕ) → length (raise (registers_of q after) (ix v) (rk v)) ≡ 2 ^ q
  raised_size v =
      length-set (registers_of q after) (ix v) (max (get_or (registers_of q after) (ix v) 0) (rk v)) ∙ of_length q after setting_room

  pub setting_turn : (v : ℕ) (next : List ℕ) → i < length list → v ≡ get_or list i 0
      → next ≡ with_registers q (raise (registers_of q after) (ix v) (rk v)) after → Setting q ix rk list before next (i + 1)
  unfolding raised_with
  setting_turn v next h e f =
      let size = raised_size v in
      let regs : registers_of q next ≡ raise (registers_of q after) (ix v) (rk v) = ap (registers_of q) f ∙ of_with q after setting_room (raise (registers_of q after) (ix v) (rk v)) size in
      record {
        room = w.room;
        same =
            f
            ∙ ap (with_registers q (raise (registers_of q after) (ix v) (rk v))) w.same
            ∙ with_with q before w.room (registers_of q after) (of_length q after setting_room) (raise (registers_of q after) (ix v) (rk v))
            ∙ ap (λ (l : List ℕ). with_registers q l before) (sym regs);
        whole =
            w.whole
            ∙ ap (raised_with ix rk (registers_of q after)) (drop-cons list i 0 h)
            ∙ ap (λ (x : ℕ). raised_with ix rk (raise (registers_of q after) (ix x) (rk x)) (drop (suc i) list)) (sym e)
            ∙ ap₂ (λ (l : List ℕ) (n : ℕ). raised_with ix rk l (drop n list)) (sym regs) (sym (add-one i));
        size = ap length f ∙ with_length q after setting_room (raise (registers_of q after) (ix v) (rk v)) size ∙ w.size;
      }

  pub setting_end : length list ≤ i → after ≡ with_registers q (raised_with ix rk (registers_of q before) list) before
  unfolding raised_with
  setting_end h =
      w.same
      ∙ ap (λ (l : List ℕ). with_registers q l before)
      (sym (w.whole ∙ ap (raised_with ix rk (registers_of q after)) (drop_of_length-le list h)))

-- A register of p bits is one of p - d once lowered.
pub lower_index_lem : (p d i : ℕ) → d ≤ p → i < 2 ^ p → i / 2 ^ d < 2 ^ (p - d)
lower_index_lem p d i h l = shr_lt (p - d) d (subst (λ (n : ℕ). i < 2 ^ n) (let e : p ≡ p - d + d = omega arith in e) l)

-- A plain value's rank of k bits is that of 1 lowered by them.
plain_lowered : (k v : ℕ) → lowered_rank k v 1 ≡ plain_rank k v
unfolding plain_rank
plain_lowered k v =
    ⊎_elim (λ (z : v % 2 ^ k ≡ 0). omega (arith, lowered_zero k v 1 z, ap (count_leading_zeros k) z, leading_of_zero k))
    (λ (h : 0 < v % 2 ^ k). lowered_bits k v 1 h) (eq-zero-or-pos (v % 2 ^ k))

-- So d bits more give its register and rank d bits lower.
module _ (p s d v : ℕ) (plain : marked p s v ≡ false) where
  plain_index : v / 2 ^ (s - p + d) ≡ lower_index p s d v
  plain_index = sym (shr-shr v (s - p) d) ∙ ap (λ (n : ℕ). n / 2 ^ d) (sym (register_plain p s v plain))

  plain_lower : plain_rank (s - p + d) v ≡ lower_rank p s d v
  plain_lower =
      sym (plain_lowered (s - p + d) v)
      ∙ sym (lowered_twice (s - p) d v 1)
      ∙ ap₂ (lowered_rank d) (sym (register_plain p s v plain)) (plain_lowered (s - p) v ∙ sym (rank_plain p s v plain))

  module _ (pair : Pair p s) (ok : valid p s v ≡ true) (fewer : d ≤ p) where
    plain_small : v / 2 ^ (s - p + d) < 2 ^ (p - d)
    plain_small = subst (λ (n : ℕ). n < 2 ^ (p - d)) (sym plain_index) (lower_index_lem p d (register p s v) fewer (register_lt p s v pair ok))

    pub plain_held : (bytes : List ℕ) → register_bytes (p - d) ≤ length bytes → HoldsFirst (v / 2 ^ (s - p + d) + 1) bytes
    plain_held bytes room = first_held (p - d) (v / 2 ^ (s - p + d)) bytes room plain_small

    pub set_plain : (x : ℕ) (before after : List ℕ) → register_bytes (p - d) ≤ length before → x ≡ plain_rank (s - p + d) v
        → RaisePost before (v / 2 ^ (s - p + d)) x after
        → after ≡ with_registers (p - d) (raise (registers_of (p - d) before) (lower_index p s d v) (lower_rank p s d v)) before
    set_plain x before after room e raised =
        raised.raised (p - d) room plain_small
        ∙ ap₂ (λ (a b : ℕ). with_registers (p - d) (raise (registers_of (p - d) before) a b) before) plain_index (e ∙ plain_lower)

-- One marked value.
pub set_one : (p s d v i r x : ℕ) (before after : List ℕ) → d ≤ p → register_bytes (p - d) ≤ length before → IndexPost p s v i → RankPost p s v r
    → x ≡ lowered_rank d i r → RaisePost before (i / 2 ^ d) x after
    → after ≡ with_registers (p - d) (raise (registers_of (p - d) before) (lower_index p s d v) (lower_rank p s d v)) before
set_one p s d v i r x before after h room index ranks e raised =
    raised.raised (p - d) room (lower_index_lem p d i h index.small)
    ∙ ap₂ (λ (a b : ℕ). with_registers (p - d) (raise (registers_of (p - d) before) a b) before) (ap (λ (n : ℕ). n / 2 ^ d) index.index)
    (e ∙ ap₂ (lowered_rank d) index.index ranks.value)

pub set_none_room : (enc : Sparse) (list bytes : List ℕ) → SetListPre enc 0 list bytes → register_bytes enc.normal_precision ≤ length bytes
set_none_room enc list bytes pre =
    let e : enc.normal_precision - 0 ≡ enc.normal_precision = omega arith in
    subst (λ (n : ℕ). register_bytes n ≤ length bytes) e pre.room

pub set_own : (p s : ℕ) (l before after : List ℕ) → after ≡ with_registers (p - 0) (raised_lower p s 0 (registers_of (p - 0) before) l) before
    → after ≡ with_registers p (raised_by p s (registers_of p before) l) before
set_own p s l before after e =
    e
    ∙ ap (λ (n : ℕ). with_registers n (raised_lower p s 0 (registers_of n before) l) before) (let f : p - 0 ≡ p = omega arith in f)
    ∙ ap (λ (x : List ℕ). with_registers p x before) (lower_none p s (registers_of p before) l)

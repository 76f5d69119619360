-- Demand 3: after any list of calls the roll-up agrees with what the accepted states come to; and so two lists of calls that accepted the same states
-- agree with each other, whatever the order, the repeats, the refusals and the writes between were.
use Rattle.std.proofs.Common.{◌≡◌, ℕ, ◌+◌, ◌-◌, ◌^◌, ◌<◌, ◌≤◌, min, Bool, cond, List, [], ◌∷◌, map, length, sym, refl, ap, ◌∙◌, subst, ap₂, ⊎_elim, le_of_eq, arith, eq-eqb, ne_eqb}
use mathlib.Core.List.Memᴰ
use mathlib.Core.List.{Memᴰ}
use native.Mathlib.Nat.{min-le_left, min-le_right}
use lib.Bits.{bit_and}
use Rattle.wire.specs.State.{State}
use Rattle.lists.specs.Registers.{larger, lowered}
use Rattle.lists.proofs.RankLaws.{lowered_length, registers_larger, registers_twice}
use Rattle.rollup.specs.declared.accumulator.Accumulator.{Accumulator}
use Rattle.rollup.specs.Accumulator.{Mem, fresh, is_started}
use Rattle.rollup.specs.Header.{data_of, mask_of}
use Rattle.rollup.specs.Adding.{state_numbers}
use Rattle.rollup.specs.Stages.{TakePre}
use Rattle.rollup.specs.Calls.{Call, added, wrote, moved, Moved, Steps, begun, adding, writing, moving, Run, accepted, state_in, values_in, states, registers_in, over, smallest_precision, smallest_sparse_precision, common_bits, largest_registers, rollup_registers, Answered, DemandThree, OrderFree}
use Rattle.rollup.specs.Taking.{signed_min, unchanged, Shows}
use Rattle.rollup.proofs.TakeLaws.{ready_takes}
use Rattle.rollup.proofs.ViewLaws.{IsRefused, IsAccepted, add_view, run_fits, sparse_small}
use Rattle.rollup.proofs.AgreementLaws.{lowered_here, Took, same_registers, moved_registers, taken_length, first_took, more_took}
use Rattle.rollup.proofs.FoldLaws.{over_one, over_more, over_through, over_set, Any, min_joins, and_joins, Small, signed_joins, larger_joins}

-- ---- one more state

smallest_le : (st : State) (sts : List State) (s : State) → Memᴰ s (st ∷ sts) → smallest_precision (st ∷ sts) ≤ s.hll.precision
smallest_le st [] s i =
    le_of_eq
    (over_one 0 min (λ (x : State). x.hll.precision) st
    ∙ ⊎_elim (λ (e : s ≡ st). ap (λ (x : State). x.hll.precision) (sym e)) (λ (j : Memᴰ s []). absurd (Memᴰ.not-nil j)) (Memᴰ.cases_cons i))
smallest_le st (last ∷ sts) s i =
    let e = over_more 0 min (λ (x : State). x.hll.precision) st last sts in
    ⊎_elim
    (λ (f : s ≡ st).
    let g : st.hll.precision ≡ s.hll.precision = ap (λ (x : State). x.hll.precision) (sym f) in
    let h = min-le_right (smallest_precision (last ∷ sts)) st.hll.precision in
    omega arith)
    (λ (j : Memᴰ s (last ∷ sts)).
    let g = smallest_le last sts s j in
    let h = min-le_left (smallest_precision (last ∷ sts)) st.hll.precision in
    omega arith) (Memᴰ.cases_cons i)

-- The registers of a state at precision q.
abbrev at : ℕ → State → List ℕ
at q st = lowered (st.hll.precision - q) q (registers_in st)

-- Lowering those of all states from q goes on to q': they are the largest there.
lower_all : (q q' : ℕ) → q' ≤ q → (st : State) (sts : List State) → ((s : State) → Memᴰ s (st ∷ sts) → q ≤ s.hll.precision)
    → lowered (q - q') q' (over [] larger (at q) (st ∷ sts)) ≡ over [] larger (at q') (st ∷ sts)
lower_all q q' h st sts low =
    over_through (λ (l : List ℕ). length l ≡ 2 ^ q) [] larger (at q) (larger_joins q).closed [] larger (at q') (lowered (q - q') q')
    (λ (x y : List ℕ) (f : length x ≡ 2 ^ q) (g : length y ≡ 2 ^ q). registers_larger (q - q') q' x y (f ∙ sym g)) st sts
    (λ (s : State) (i : Memᴰ s (st ∷ sts)). lowered_length (s.hll.precision - q) q (registers_in s))
    (λ (s : State) (i : Memᴰ s (st ∷ sts)).
    let p = s.hll.precision in
    let l = low s i in
    ap (λ (k : ℕ). lowered (q - q') q' (lowered (p - q) k (registers_in s))) (let e : q ≡ q' + (q - q') = omega arith in e)
    ∙ registers_twice (p - q) (q - q') q' (registers_in s)
    ∙ ap (λ (d : ℕ). lowered d q' (registers_in s)) (let e : p - q + (q - q') ≡ p - q' = omega arith in e))

-- ---- what holds all along

abbrev Stands : List State → Accumulator → Mem → Type 0
Stands [] a m = a ≡ fresh
Stands (st ∷ sts) a m =
    Took (smallest_precision (st ∷ sts)) (smallest_sparse_precision (st ∷ sts)) (common_bits (st ∷ sts)) (largest_registers (st ∷ sts)) a m

-- A refusal, and a write.
stays : (sts : List State) (a : Accumulator) (m : Mem) (r : Accumulator) (n : Mem) → Shows (unchanged a m) r n → Stands sts a m → Stands sts r n
stays [] a m r n sh e = sh.head ∙ e
stays (st ∷ sts) a m r n sh t =
    record {
      started = ap (λ (h : Accumulator). is_started h.form) sh.head ∙ t.started;
      precision = ap (λ (h : Accumulator). h.precision) sh.head ∙ t.precision;
      sparse_precision = ap (λ (h : Accumulator). h.sparse_precision) sh.head ∙ t.sparse_precision;
      mask = ap (λ (h : Accumulator). h.allowed) sh.head ∙ t.mask;
      registers = same_registers a m r n sh ∙ t.registers;
    }

-- Other memory.
moves : (sts : List State) (a : Accumulator) (m n : Mem) → Moved a m n → Stands sts a m → Stands sts a n
moves [] a m n mv e = e
moves (st ∷ sts) a m n mv t =
    record {
      started = t.started;
      precision = t.precision;
      sparse_precision = t.sparse_precision;
      mask = t.mask;
      registers = moved_registers a m n mv ∙ t.registers;
    }

-- An accepted state.
module _ (room : ℕ) (bytes : List ℕ) (a : Accumulator) (m : Mem) (answer : ℕ) (head : Accumulator) (n : Mem) (x : IsAccepted a m room bytes answer head n) where
  abbrev st : State
  st = state_in bytes

  abbrev p : ℕ
  p = st.hll.precision

  abbrev vs : List ℕ
  vs = values_in st

  taken : TakePre a m room (state_numbers st vs) (data_of st) vs
  taken = ready_takes x.ready

  grows : (sts : List State) → Stands sts a m → Stands (st ∷ sts) head n
  unfolding largest_registers registers_in
  grows [] e =
      let t = first_took a m room (state_numbers st vs) (data_of st) vs taken head n (ap (λ (h : Accumulator). h.form) e) x.shows in
      let one = over_one 0 min (λ (s : State). s.hll.precision) st in
      record {
        started = t.started;
        precision = t.precision ∙ sym one;
        sparse_precision = t.sparse_precision ∙ sym (over_one 0 signed_min (λ (s : State). s.hll.sparse_precision) st);
        mask = t.mask ∙ sym (over_one 0 bit_and (λ (s : State). mask_of s.value_type) st);
        registers =
            t.registers
            ∙ sym
            (over_one [] larger (at (smallest_precision (st ∷ []))) st
            ∙ lowered_here p (smallest_precision (st ∷ [])) (registers_in st) one (taken_length a m room (state_numbers st vs) (data_of st) vs taken));
      }
  grows (last ∷ sts) s =
      let q = smallest_precision (last ∷ sts) in
      let q' = smallest_precision (st ∷ last ∷ sts) in
      let next : q' ≡ min q p = over_more 0 min (λ (s : State). s.hll.precision) st last sts in
      let down : q' ≤ q = (let h = min-le_left q p in omega arith) in
      let same : min a.precision p ≡ q' = ap (λ (k : ℕ). min k p) s.precision ∙ sym next in
      let t = more_took a m room (state_numbers st vs) (data_of st) vs taken head n s.started x.shows in
      record {
        started = t.started;
        precision = t.precision ∙ same;
        sparse_precision =
            t.sparse_precision
            ∙ ap (λ (k : ℕ). signed_min k st.hll.sparse_precision) s.sparse_precision
            ∙ sym (over_more 0 signed_min (λ (s : State). s.hll.sparse_precision) st last sts);
        mask =
            t.mask
            ∙ ap (λ (k : ℕ). bit_and k (mask_of st.value_type)) s.mask
            ∙ sym (over_more 0 bit_and (λ (s : State). mask_of s.value_type) st last sts);
        registers =
            t.registers
            ∙ ap (λ (k : ℕ). larger (lowered (a.precision - k) k (rollup_registers a.form a m)) (at k st)) same
            ∙ ap₂ (λ (k : ℕ) (l : List ℕ). larger (lowered (k - q') q' l) (at q' st)) s.precision s.registers
            ∙ ap (λ (l : List ℕ). larger l (at q' st)) (lower_all q q' down last sts (smallest_le last sts))
            ∙ sym (over_more [] larger (at q') st last sts);
      }

-- ---- over the run

-- Which states a call of `add` makes of those before.
module _ (room : ℕ) (bytes : List ℕ) (n : ℕ) (calls : List Call) where
  accepted_yes : n ≡ 0 → accepted (added room bytes n ∷ calls) ≡ bytes ∷ accepted calls
  unfolding accepted
  accepted_yes e = ap (λ (b : Bool). cond b (bytes ∷ accepted calls) (accepted calls)) (eq-eqb n 0 e)

  accepted_no : (n ≡ 0 → ⊥) → accepted (added room bytes n ∷ calls) ≡ accepted calls
  unfolding accepted
  accepted_no e = ap (λ (b : Bool). cond b (bytes ∷ accepted calls) (accepted calls)) (ne_eqb n 0 e)

accepted_none : accepted [] ≡ []
unfolding accepted
accepted_none = refl

accepted_wrote : (room : ℕ) (out : List ℕ) (n : ℕ) (calls : List Call) → accepted (wrote room out n ∷ calls) ≡ accepted calls
unfolding accepted
accepted_wrote room out n calls = refl

accepted_moved : (calls : List Call) → accepted (moved ∷ calls) ≡ accepted calls
unfolding accepted
accepted_moved calls = refl

stands : {first : Mem} {calls : List Call} {a : Accumulator} {m : Mem} → Run first calls a m → Stands (states calls) a m
stands {first = m} begun = subst (λ (bs : List (List ℕ)). Stands (map state_in bs) fresh m) (sym accepted_none) refl
stands (adding {calls = calls} {a = a} {m = m} room bytes answer head n run post) =
    ⊎_elim
    (λ (x : IsRefused a m answer head n).
    let e = accepted_no room bytes answer calls x.number in
    subst (λ (bs : List (List ℕ)). Stands (map state_in bs) head n) (sym e)
    (stays (states calls) a m head n x.same (stands run)))
    (λ (x : IsAccepted a m room bytes answer head n).
    let e = accepted_yes room bytes answer calls x.none in
    subst (λ (bs : List (List ℕ)). Stands (map state_in bs) head n) (sym e) (grows room bytes a m answer head n x (states calls) (stands run))) (add_view a m room bytes answer head n (run_fits run) post)
stands (writing {calls = calls} {a = a} {m = m} room out answer len n after run post) =
    let e = accepted_wrote room out answer calls in
    subst (λ (bs : List (List ℕ)). Stands (map state_in bs) a n) (sym e)
    (stays (states calls) a m a n post.same (stands run))
stands (moving {calls = calls} {a = a} {m = m} n run post) =
    let e = accepted_moved calls in
    subst (λ (bs : List (List ℕ)). Stands (map state_in bs) a n) (sym e) (moves (states calls) a m n post (stands run))

answered : {a₀ : Accumulator} {m₀ : Mem} {calls : List Call} {a : Accumulator} {m : Mem} (steps : Steps a₀ m₀ calls a m) → Answered steps
unfolding Answered
answered begun = tt
answered (adding room bytes answer head n steps post) = (answered steps, post.answered)
answered (writing room out answer len n after steps post) = (answered steps, post.answered)
answered (moving n steps post) = answered steps

-- ---- the theorem

-- What is compared, with none accepted too.
record Compared (sts : List State) (a : Accumulator) (m : Mem) : Type 0 where
  precision : a.precision ≡ smallest_precision sts
  sparse_precision : a.sparse_precision ≡ smallest_sparse_precision sts
  mask : a.allowed ≡ common_bits sts
  registers : rollup_registers a.form a m ≡ largest_registers sts

compared : (sts : List State) (a : Accumulator) (m : Mem) → Stands sts a m → Compared sts a m
unfolding over largest_registers rollup_registers
compared [] a m e =
    record {
      precision = ap (λ (h : Accumulator). h.precision) e;
      sparse_precision = ap (λ (h : Accumulator). h.sparse_precision) e;
      mask = ap (λ (h : Accumulator). h.allowed) e;
      registers = ap (λ (h : Accumulator). rollup_registers h.form h m) e;
    }
compared (st ∷ sts) a m t = record { precision = t.precision; sparse_precision = t.sparse_precision; mask = t.mask; registers = t.registers }

pub demand_three : DemandThree
unfolding DemandThree
demand_three first calls a m run =
    let s = stands run in
    let c = compared (states calls) a m s in
    record {
      answers = answered run;
      none = λ (e : accepted calls ≡ []). subst (λ (bs : List (List ℕ)). Stands (map state_in bs) a m) e s;
      precision = c.precision;
      sparse_precision = c.sparse_precision;
      mask = c.mask;
      registers = c.registers;
    }

-- ---- the order is free

all_small : (c : List (List ℕ)) (s : State) → Memᴰ s (map state_in c) → s.hll.sparse_precision < 2 ^ 32
all_small c s i = let w = Memᴰ.of_map state_in c i in subst (λ (x : State). x.hll.sparse_precision < 2 ^ 32) w.2 (sparse_small w.0)

pub order_free : OrderFree
unfolding OrderFree DemandThree largest_registers
order_free first first' c d a b m n run run' set =
    let there = set.there in
    let back = set.back in
    let x = demand_three first c a m run in
    let y = demand_three first' d b n run' in
    let q = smallest_precision (states c) in
    let low : q ≡ smallest_precision (states d) =
    over_set Any 0 min (λ (s : State). s.hll.precision) min_joins (states c) (states d) there back (λ (s : State) (i : Memᴰ s (states c)). tt) in
    record {
      precision = x.precision ∙ low ∙ sym y.precision;
      sparse_precision =
          x.sparse_precision
          ∙ over_set Small 0 signed_min (λ (s : State). s.hll.sparse_precision) signed_joins (states c) (states d) there back (all_small (accepted c))
          ∙ sym y.sparse_precision;
      mask =
          x.mask
          ∙ over_set Any 0 bit_and (λ (s : State). mask_of s.value_type) and_joins (states c) (states d) there back
          (λ (s : State) (i : Memᴰ s (states c)). tt)
          ∙ sym y.mask;
      registers =
          x.registers
          ∙ over_set (λ (l : List ℕ). length l ≡ 2 ^ q) [] larger (at q) (larger_joins q) (states c) (states d) there back
          (λ (s : State) (i : Memᴰ s (states c)). lowered_length (s.hll.precision - q) q (registers_in s))
          ∙ ap (λ (k : ℕ). over [] larger (at k) (states d)) low
          ∙ sym y.registers;
    }

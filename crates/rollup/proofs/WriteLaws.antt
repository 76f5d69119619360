-- Writing: the questions one after the other, and what is written. `write_outcome`, `flushed`, `current_size`, `state_form`, `below_limit` and
-- `list_outcome` are unfolded here alone.
use Rattle.std.proofs.Common.{◌≡◌, ℕ, ◌+◌, ◌-◌, ◌^◌, ◌<◌, ◌≤◌, Bool, true, false, cond, leb, List, [], ◌++◌, length, take, drop, sym, refl, ap, ◌∙◌, subst, ⊎_elim, append_assoc, append-nil, zero-add, arith, length-append, length-drop, drop_of_length-le, length-take-le, take_all, drop-drop, take_at, drop_at, ltb-true, le-ltb, lt-ltb, eq-eqb, ne_eqb, le-leb, leb-true, ap₂, Result, Ok, Err}
use mathlib.Core.List.Permᴰ
use mathlib.Core.List.{Permᴰ}
use mathlib.Core.Option.{none, some}
use lib.Seq.{sets-eq}
use borrow.Rule.Slice.PartMut.{mid_of, post_of, put_mid}
use borrow.Author.Tests.{lt-leb}
use Rattle.wire.specs.Varints.{PutPost}
use Rattle.wire.specs.declared.state.Fields.{Fields}
use Rattle.wire.specs.declared.encoding.EncodeError.{EncodeError}
use Rattle.wire.specs.declared.encoding.EncodeError.TheVariants.{OutputTooShort}
use Rattle.wire.specs.State.{State, state_of}
use Rattle.wire.specs.Encoding.{encoded_number, encoded_length, head_of, hll_head, encode_of, Output, encode_step, EncodePost}
use Rattle.std.proofs.lemmas.Bool.{cases_lt as side}
use Rattle.wire.proofs.EncodingLaws.{head_any, head_tail, head_length, hll_head_le, outer_numbers_le, prefix_le, encode_yes, encode_no}
use Rattle.lists.specs.declared.values.Sparse.{Sparse as Encoding}
use Rattle.lists.specs.declared.merging.Merged.{Merged}
use Rattle.lists.specs.Pairs.{NewPost}
use Rattle.lists.specs.Sorting.{ascends, sort_of}
use Rattle.lists.specs.Lists.{all_valid, written, encode_list, merged, distinct_slots, distinct_indices, IndexPre}
use Rattle.lists.specs.Registers.{register_bytes, registers_of}
use Rattle.lists.proofs.OrderLaws.{length_sort, perm_sort}
use Rattle.lists.proofs.MergeLaws.{merged_ascends, merged_distinct, merged_valid, length_merged, length_encode}
use Rattle.lists.proofs.IndexLaws.{distinct_merged, distinct_le}
use Rattle.lists.proofs.RegisterLaws.{registers_are}
use Rattle.rollup.specs.declared.accumulator.Form.{Form}
use Rattle.rollup.specs.declared.accumulator.Form.TheVariants.{Unstarted, Sparse, Dense}
use Rattle.rollup.specs.declared.accumulator.Accumulator.{Accumulator}
use Rattle.rollup.specs.Accumulator.{Mem, mem, kept_of, waiting_of, limit, fits, is_started}
use Rattle.rollup.specs.Writing.{flushed, current_size, state_with, state_form, below_limit, unless, write_outcome, WritePost}
use Rattle.rollup.specs.WritingPaths.{Writes, head_fields, with_data, with_sparse_data, list_outcome, ValuesPre, FlushPre, FlushPost}
use Rattle.rollup.proofs.FitLaws.{FitSparse, fits_form_lem, fit_sparse, fit_dense, limit_small, counts_short}
use Rattle.rollup.proofs.SparseLaws.{at_pair, of_pair}

-- ---- a question that is answered with yes, and one with no

-- A refusal writes nothing.
abbrev pub refusal : ℕ → Output
refusal n = record { answer = n; bytes = [] }

go : {q : Bool} (n : ℕ) {next : Output} → q ≡ true → unless q n next ≡ next
go n {next} e = ap (λ (t : Bool). unless t n next) e

stop : {q : Bool} (n : ℕ) (next : Output) → q ≡ false → unless q n next ≡ refusal n
stop n next e = ap (λ (t : Bool). unless t n next) e

pub writes_no : (x : Output) (n : ℕ) (out : List ℕ) → x ≡ refusal n → Writes x out n 0 out
writes_no x n out e =
    record {
      answered = ap (λ (o : Output). o.answer) (sym e);
      counted = ap (λ (o : Output). length o.bytes) (sym e);
      output = ap (λ (o : Output). o.bytes ++ drop (length o.bytes) out) (sym e);
    }

-- ---- the output's tail, written after its head

-- What was put at the start, and what another writer put at the start of the rest.
pub put_behind : (out head tail mid y : List ℕ) (at r : ℕ) → length head + length tail ≤ length out → PutPost out 0 head at mid → PutPost (drop at mid) 0 tail r y
    → take at mid ++ y ≡ (head ++ tail) ++ drop (length (head ++ tail)) out
put_behind out head tail mid y at r h p q =
    let whole : mid ≡ head ++ drop (length head) out =
    p.output ∙ sets-eq head out 0 (let g : 0 + length head ≤ length out = omega arith in g) ∙ ap (λ (k : ℕ). head ++ drop k out) (zero-add (length head)) in
    let place : length head ≡ at = omega (arith, p.next) in
    let front : take at mid ≡ head = ap (take at) whole ∙ take_at head (drop (length head) out) at place in
    let rest : drop at mid ≡ drop (length head) out = ap (drop at) whole ∙ drop_at head (drop (length head) out) at place in
    let room : 0 + length tail ≤ length (drop at mid) = omega (arith, ap (λ (l : List ℕ). length l) rest, length-drop (length head) out) in
    let behind : y ≡ tail ++ drop (length tail) (drop (length head) out) =
    q.output
    ∙ sets-eq tail (drop at mid) 0 room
    ∙ ap₂ (λ (k : ℕ) (l : List ℕ). tail ++ drop k l) (zero-add (length tail)) rest in
    ap₂ (λ (x z : List ℕ). x ++ z) front behind
    ∙ sym (append_assoc head tail (drop (length tail) (drop (length head) out)))
    ∙ ap (λ (z : List ℕ). (head ++ tail) ++ z)
    (drop-drop (length tail) (length head) out ∙ ap (λ (k : ℕ). drop k out) (sym (length-append head tail)))

-- ---- questions 22 and 23 of a list

module _ (a : Accumulator) (size : ℕ) (l : List ℕ) (bytes : ℕ) (pre : ValuesPre a l bytes) (top : ℕ) (t : top ≡ limit a.precision) where
  abbrev list_state : State
  list_state = state_with a size none (some (encode_list l))

  pub values_22 : (out : List ℕ) → top ≤ bytes → Writes (list_outcome a size l (length out)) out 22 0 out
  unfolding list_outcome
  values_22 out h =
      writes_no (list_outcome a size l (length out)) 22 out
      (stop 22 (encode_step list_state (length out))
      (le-ltb (written l) (limit a.precision) (let g : limit a.precision ≤ written l = omega (arith, pre.count) in g)))

  module _ (below : bytes < top) where
    pub values_small : bytes < 12582912
    values_small = omega (arith, limit_small a.precision pre.high)

    to_encode : (space : ℕ) → list_outcome a size l space ≡ encode_step list_state space
    unfolding list_outcome
    to_encode space =
        go 22 (lt-ltb (written l) (limit a.precision) (let g : written l < limit a.precision = omega (arith, pre.count) in g))

    module _ (f : Fields) (e : f ≡ with_sparse_data (head_fields a size) bytes) where
      list_len : f.hll.sparse_data.len ≡ bytes
      list_len = ap (λ (x : Fields). x.hll.sparse_data.len) e

      abbrev head : List ℕ
      head = head_of (state_of [] f) f.hll.sparse_data.len

      head_view : head ≡ head_of list_state bytes
      head_view =
          ap₂ head_of (ap (state_of []) e) list_len
          ∙ head_any (state_of [] (with_sparse_data (head_fields a size) bytes)) (some (encode_list l)) bytes

      whole : encode_of list_state ≡ head ++ encode_list l
      whole =
          head_tail list_state (encode_list l) refl
          ∙ ap (λ (k : ℕ). head_of list_state k ++ encode_list l) (length_encode l ∙ sym pre.count)
          ∙ ap (λ (h : List ℕ). h ++ encode_list l) (sym head_view)

      whole_length : length (encode_of list_state) ≡ length head + bytes
      whole_length = ap length whole ∙ length-append head (encode_list l) ∙ ap (λ (k : ℕ). length head + k) (length_encode l ∙ sym pre.count)

      pub head_small : length head ≤ 200
      head_small =
          let n = length (hll_head list_state.hll bytes) + bytes in
          omega (
            arith,
            ap length head_view,
            head_length list_state bytes n refl,
            outer_numbers_le list_state,
            prefix_le 112 n,
            hll_head_le list_state.hll bytes,
          )

      pub values_23 : (out : List ℕ) (n : ℕ) → n ≡ length head → length out < n + bytes
          → Writes (list_outcome a size l (length out)) out 23 0 out
      values_23 out n g h =
          writes_no (list_outcome a size l (length out)) 23 out
          (to_encode (length out) ∙ encode_no list_state (length out) (let k : length out < length (encode_of list_state) = omega (arith, whole_length) in k))

      module _ (out : List ℕ) (n : ℕ) (g : n ≡ length head) (h : n + bytes ≤ length out) (at : ℕ) (mid : List ℕ) (p : PutPost out 0 head at mid) where
        -- What is lent on is all that is left.
        tail_is : mid_of at (length mid - at) mid ≡ drop at mid
        tail_is = take_all (length mid - at) (drop at mid) (let k : length (drop at mid) ≤ length mid - at = omega (arith, length-drop at mid) in k)

        tail_end : post_of at (length mid - at) mid ≡ []
        tail_end = drop_of_length-le (drop at mid) (let k : length (drop at mid) ≤ length mid - at = omega (arith, length-drop at mid) in k)

        pub values_written : (r : ℕ) (y : List ℕ) → PutPost (mid_of at (length mid - at) mid) 0 (encode_list l) r y
            → Writes (list_outcome a size l (length out)) out 0 (n + bytes) (put_mid at (length mid - at) mid y)
        values_written r y q =
            let x : list_outcome a size l (length out) ≡ record { answer = 0; bytes = encode_of list_state } =
            to_encode (length out) ∙ encode_yes list_state (length out) (let j : length (encode_of list_state) ≤ length out = omega (arith, whole_length) in j) in
            let room : length head + length (encode_list l) ≤ length out = omega (arith, length_encode l, pre.count) in
            record {
              answered = ap (λ (o : Output). o.answer) (sym x);
              counted = (let j : n + bytes ≡ length (encode_of list_state) = omega (arith, whole_length) in j) ∙ ap (λ (o : Output). length o.bytes) (sym x);
              output =
                  ap (λ (z : List ℕ). take at mid ++ (y ++ z)) tail_end
                  ∙ ap (λ (z : List ℕ). take at mid ++ z) (append-nil y)
                  ∙ put_behind out head (encode_list l) mid y at r room p (subst (λ (z : List ℕ). PutPost z 0 (encode_list l) r y) tail_is q)
                  ∙ ap (λ (b : List ℕ). b ++ drop (length b) out) (sym whole)
                  ∙ ap (λ (o : Output). o.bytes ++ drop (length o.bytes) out) (sym x);
            }

-- ---- question 23 of registers

module _ (a : Accumulator) (registers out : List ℕ) where
  abbrev dense_state : State
  dense_state = state_with a a.sparse_size (some (registers_of a.precision registers)) none

  module _ (f : Fields) (n : ℕ) (e : n ≡ register_bytes a.precision) (g : f ≡ with_data (head_fields a a.sparse_size) n) where
    -- The data field is the register bytes.
    dense_view : state_of registers f ≡ dense_state
    dense_view =
        ap (state_of registers) g
        ∙ ap (λ (k : ℕ). state_with a a.sparse_size (some (take k registers)) none) e
        ∙ ap (λ (d : List ℕ). state_with a a.sparse_size (some d) none) (sym (registers_are a.precision registers))

    module _ (r : Result ℕ EncodeError) (after : List ℕ) (p : EncodePost (state_of registers f) out r after) where
      encoded : Writes (encode_step dense_state (length out)) out (encoded_number r) (encoded_length r) after
      encoded =
          let q = subst (λ (st : State). EncodePost st out r after) dense_view p in
          record { answered = q.answer; counted = q.written; output = q.output }

    pub dense_23 : (k : EncodeError) (after : List ℕ) → EncodePost (state_of registers f) out (Err k) after → Writes (encode_step dense_state (length out)) out 23 0 after
    dense_23 OutputTooShort after p = encoded (Err OutputTooShort) after p

    pub dense_put : (j : ℕ) (after : List ℕ) → EncodePost (state_of registers f) out (Ok j) after → Writes (encode_step dense_state (length out)) out 0 j after
    dense_put j after p = encoded (Ok j) after p

-- ---- what is kept and what waits, as one list

module _ (a : Accumulator) (m : Mem) where
  pub flushed_none : a.pending_len ≡ 0 → flushed a m ≡ kept_of a m
  unfolding flushed
  flushed_none e =
      ap (λ (b : Bool). cond b (kept_of a m) (merged a.precision a.sparse_precision (kept_of a m) (waiting_of a m))) (eq-eqb a.pending_len 0 e)

  pub flushed_some : (a.pending_len ≡ 0 → ⊥) → flushed a m ≡ merged a.precision a.sparse_precision (kept_of a m) (waiting_of a m)
  unfolding flushed
  flushed_some n =
      ap (λ (b : Bool). cond b (kept_of a m) (merged a.precision a.sparse_precision (kept_of a m) (waiting_of a m))) (ne_eqb a.pending_len 0 n)

  size_none : a.pending_len ≡ 0 → current_size a m ≡ a.sparse_size
  unfolding current_size
  size_none e =
      ap (λ (b : Bool). cond b a.sparse_size (distinct_indices a.precision a.sparse_precision (kept_of a m ++ waiting_of a m)))
      (eq-eqb a.pending_len 0 e)

  -- The number of indices may be taken of the merge.
  size_some : (a.pending_len ≡ 0 → ⊥)
      → current_size a m ≡ distinct_indices a.precision a.sparse_precision (merged a.precision a.sparse_precision (kept_of a m) (waiting_of a m))
  unfolding current_size
  size_some n =
      ap (λ (b : Bool). cond b a.sparse_size (distinct_indices a.precision a.sparse_precision (kept_of a m ++ waiting_of a m)))
      (ne_eqb a.pending_len 0 n)
      ∙ sym (distinct_merged a.precision a.sparse_precision (kept_of a m) (waiting_of a m))

-- ---- the questions in order

module _ (a : Accumulator) (m : Mem) (room space : ℕ) where
  -- What follows question 1.
  abbrev asked : Form → Output
  asked f =
      unless (is_started f) 21
      (unless (leb (a.sparse_len + a.pending_len) room) 17 (unless (below_limit f a m) 22 (encode_step (state_form f a m) space)))

  pub write_unfit : fits a m ≡ false → write_outcome a m room space ≡ refusal 1
  unfolding write_outcome
  write_unfit e = stop 1 (asked a.form) e

  module _ (fit : fits a m ≡ true) where
    to_asked : (f : Form) → a.form ≡ f → write_outcome a m room space ≡ asked f
    unfolding write_outcome
    to_asked f g = go 1 fit ∙ ap asked g

    pub write_fresh : a.form ≡ Unstarted → write_outcome a m room space ≡ refusal 21
    write_fresh g = to_asked Unstarted g

    pub write_dense : a.form ≡ Dense
        → write_outcome a m room space ≡ encode_step (state_with a a.sparse_size (some (registers_of a.precision m.registers)) none) space
    unfolding below_limit state_form
    write_dense g =
        let x = (fit_dense a m fit g).none in
        to_asked Dense g ∙ go 17 (le-leb (a.sparse_len + a.pending_len) room (let h : a.sparse_len + a.pending_len ≤ room = omega (arith, x.no_kept, x.no_waiting) in h))

    pub write_full : a.form ≡ Sparse → room < a.sparse_len + a.pending_len → write_outcome a m room space ≡ refusal 17
    write_full g h =
        to_asked Sparse g
        ∙ stop 17 (unless (below_limit Sparse a m) 22 (encode_step (state_form Sparse a m) space)) (lt-leb (a.sparse_len + a.pending_len) room h)

    pub write_listed : a.form ≡ Sparse → a.sparse_len + a.pending_len ≤ room
        → write_outcome a m room space ≡ list_outcome a (current_size a m) (flushed a m) space
    unfolding below_limit state_form list_outcome
    write_listed g h = to_asked Sparse g ∙ go 17 (le-leb (a.sparse_len + a.pending_len) room h)

-- ---- the contract

module _ (a : Accumulator) (registers sparse pending : List ℕ) (room : ℕ) (out : List ℕ) where
  abbrev before : Mem
  before = mem registers sparse pending

  -- What waits is as it was, or in another order.
  pub posted : (answer len : ℕ) (left after : List ℕ) → Writes (write_outcome a before room (length out)) out answer len after
      → Permᴰ (take a.pending_len left) (take a.pending_len pending) → length left ≡ length pending
      → WritePost a before room out answer len (mem registers sparse left) after
  posted answer len left after w p n =
      record {
        answered = w.answered;
        counted = w.counted;
        output = w.output;
        same = record { head = refl; registers = refl; kept = refl; waiting = p };
        free = record { registers = refl; sparse = refl; pending = n };
      }

  pub untouched : (answer len : ℕ) (after : List ℕ) → Writes (write_outcome a before room (length out)) out answer len after
      → WritePost a before room out answer len before after
  untouched answer len after w = posted answer len pending after w (Permᴰ.refl (take a.pending_len pending)) refl

  pub refused_by : (n : ℕ) → write_outcome a before room (length out) ≡ refusal n → WritePost a before room out n 0 before out
  refused_by n e = untouched n 0 out (writes_no (write_outcome a before room (length out)) n out e)

  pub dense_post : fits a before ≡ true → a.form ≡ Dense → (answer len : ℕ) (after : List ℕ)
      → Writes (encode_step (state_with a a.sparse_size (some (registers_of a.precision registers)) none) (length out)) out answer len after
      → WritePost a before room out answer len before after
  dense_post fit f answer len after w = untouched answer len after (subst (λ (x : Output). Writes x out answer len after) (sym (write_dense a before room (length out) fit f)) w)

-- ---- a list roll-up

-- Of the memory only the lists count.
pub only_lists : (a : Accumulator) (registers sparse pending : List ℕ) → a.form ≡ Sparse → fits a (mem registers sparse pending) ≡ true
    → fits a (mem [] sparse pending) ≡ true
only_lists a registers sparse pending form fit =
    fits_form_lem a (mem [] sparse pending) Sparse form ∙ sym (fits_form_lem a (mem registers sparse pending) Sparse form) ∙ fit

module _ (a : Accumulator) (sparse pending : List ℕ) (form : a.form ≡ Sparse) (fit : fits a (mem [] sparse pending) ≡ true) where
  pub list_fit : FitSparse a (mem [] sparse pending)
  list_fit = fit_sparse a (mem [] sparse pending) fit form

  any_registers : (registers : List ℕ) → fits a (mem registers sparse pending) ≡ true
  any_registers registers = fits_form_lem a (mem registers sparse pending) Sparse form ∙ sym (fits_form_lem a (mem [] sparse pending) Sparse form) ∙ fit

  pub list_short : a.sparse_len + a.pending_len ≤ 2147483647
  list_short = counts_short list_fit

  kept_length : length (take a.sparse_len sparse) ≡ a.sparse_len
  kept_length = length-take-le a.sparse_len sparse list_fit.kept_in

  waiting_length : length (take a.pending_len pending) ≡ a.pending_len
  waiting_length = length-take-le a.pending_len pending list_fit.waiting_in

  module _ (room : ℕ) (out : List ℕ) where
    pub list_17 : room < a.sparse_len + a.pending_len → (registers : List ℕ)
        → WritePost a (mem registers sparse pending) room out 17 0 (mem registers sparse pending) out
    list_17 h registers =
        refused_by a registers sparse pending room out 17
        (write_full a (mem registers sparse pending) room (length out) (any_registers registers) form h)

    module _ (enough : a.sparse_len + a.pending_len ≤ room) where
      listed_post : (registers : List ℕ) (size : ℕ) (l : List ℕ) → current_size a (mem registers sparse pending) ≡ size
          → flushed a (mem registers sparse pending) ≡ l → (answer len : ℕ) (left after : List ℕ) → Writes (list_outcome a size l (length out)) out answer len after
          → Permᴰ (take a.pending_len left) (take a.pending_len pending) → length left ≡ length pending
          → WritePost a (mem registers sparse pending) room out answer len (mem registers sparse left) after
      listed_post registers size l e f answer len left after w =
          posted a registers sparse pending room out answer len left after
          (subst (λ (x : Output). Writes x out answer len after)
          (ap₂ (λ (k : ℕ) (v : List ℕ). list_outcome a k v (length out)) (sym e) (sym f)
          ∙ sym (write_listed a (mem registers sparse pending) room (length out) (any_registers registers) form enough)) w)

      -- Nothing waits.
      pub kept_pre : (bytes : ℕ) → bytes ≡ written (take a.sparse_len sparse) → ValuesPre a (take a.sparse_len sparse) bytes
      kept_pre bytes e = record { low = list_fit.pair.low; high = list_fit.pair.high; order = list_fit.order; count = e }

      pub kept_post : a.pending_len ≡ 0 → (answer len : ℕ) (after : List ℕ)
          → Writes (list_outcome a a.sparse_size (take a.sparse_len sparse) (length out)) out answer len after
          → (registers : List ℕ) → WritePost a (mem registers sparse pending) room out answer len (mem registers sparse pending) after
      kept_post e answer len after w registers =
          listed_post registers a.sparse_size (take a.sparse_len sparse) (size_none a (mem registers sparse pending) e)
          (flushed_none a (mem registers sparse pending) e) answer len pending after w (Permᴰ.refl (take a.pending_len pending)) refl

      -- Values wait.
      module _ (enc : Encoding) (new : NewPost a.precision a.sparse_precision enc) where
        pub flush_pre : (scratch : List ℕ) → length scratch ≡ room → FlushPre enc (take a.sparse_len sparse) (take a.pending_len pending) scratch
        flush_pre scratch e =
            record {
              order = list_fit.order;
              kept_valid = of_pair new (λ (p s : ℕ). all_valid p s (take a.sparse_len sparse) ≡ true) list_fit.kept_valid;
              waiting_valid = of_pair new (λ (p s : ℕ). all_valid p s (take a.pending_len pending) ≡ true) list_fit.waiting_valid;
              room = omega (arith, kept_length, waiting_length);
            }

        module _ (u : Merged) (ordered scratch : List ℕ)
            (x : FlushPost enc.normal_precision enc.sparse_precision (take a.sparse_len sparse) (take a.pending_len pending) u ordered scratch) where
          abbrev kept : List ℕ
          kept = take a.sparse_len sparse

          abbrev waiting : List ℕ
          waiting = take a.pending_len pending

          pub union_count : u.len ≤ a.sparse_len + a.pending_len
          union_count =
              omega (
                arith,
                x.merge.count,
                length_merged enc.normal_precision enc.sparse_precision kept waiting,
                kept_length,
                waiting_length,
              )

          pub index_pre : IndexPre enc (take u.len scratch)
          index_pre =
              let p = enc.normal_precision in
              let s = enc.sparse_precision in
              record {
                rises = ap ascends x.merge.values ∙ merged_ascends p s kept waiting;
                allowed =
                    ap (all_valid p s) x.merge.values
                    ∙ merged_valid p s kept waiting (of_pair new (λ (p s : ℕ). all_valid p s kept ≡ true) list_fit.kept_valid)
                    (of_pair new (λ (p s : ℕ). all_valid p s waiting ≡ true) list_fit.waiting_valid);
                distinct = ap (distinct_slots p s) x.merge.values ∙ merged_distinct p s kept waiting;
              }

          pub size_small : (k : ℕ) → k ≡ distinct_indices enc.normal_precision enc.sparse_precision (take u.len scratch) → k < 2 ^ 32
          size_small k e =
              omega (
                arith,
                distinct_le enc.normal_precision enc.sparse_precision (take u.len scratch),
                ap length x.merge.values,
                x.merge.count,
                union_count,
                list_short,
              )

          pub flushed_pre : ValuesPre a (take u.len scratch) u.bytes
          flushed_pre =
              record {
                low = list_fit.pair.low;
                high = list_fit.pair.high;
                order = ap ascends x.merge.values ∙ merged_ascends enc.normal_precision enc.sparse_precision kept waiting;
                count = x.merge.bytes ∙ ap written (sym x.merge.values);
              }

          pub flushed_post : (a.pending_len ≡ 0 → ⊥) → (k : ℕ) → k ≡ distinct_indices enc.normal_precision enc.sparse_precision (take u.len scratch)
              → (answer len : ℕ) (after : List ℕ) → Writes (list_outcome a k (take u.len scratch) (length out)) out answer len after
              → (registers : List ℕ) → WritePost a (mem registers sparse pending) room out answer len (mem registers sparse (ordered ++ drop a.pending_len pending)) after
          flushed_post n k e answer len after w registers =
              let p = a.precision in
              let s = a.sparse_precision in
              let m = mem registers sparse pending in
              let list : take u.len scratch ≡ merged p s kept waiting = at_pair new (λ (p s : ℕ). take u.len scratch ≡ merged p s kept waiting) x.merge.values in
              let tail = drop a.pending_len pending in
              let front : take a.pending_len (ordered ++ tail) ≡ sort_of waiting =
              take_at ordered tail a.pending_len (ap length x.ordered ∙ length_sort waiting ∙ waiting_length) ∙ x.ordered in
              let size : k ≡ distinct_indices p s (take u.len scratch) = at_pair new (λ (p s : ℕ). k ≡ distinct_indices p s (take u.len scratch)) e in
              listed_post registers k (take u.len scratch) (size_some a m n ∙ ap (distinct_indices p s) (sym list) ∙ sym size)
              (flushed_some a m n ∙ sym list) answer len (ordered ++ tail) after w
              (subst (λ (l : List ℕ). Permᴰ l waiting) (sym front) (perm_sort waiting))
              (omega (arith, length-append ordered tail, length-drop a.pending_len pending, ap length x.ordered, length_sort waiting, waiting_length, list_fit.waiting_in))

-- ---- what is known where a state was written

passes : (q : Bool) (n : ℕ) (next : Output) → 0 < n → (unless q n next).answer ≡ 0 → q ≡ true
passes true n next h e = refl
passes false n next h e = absurd (let z : ⊥ = omega arith in z)

-- Every question was answered with yes, and the bytes are those of the state.
pub record WroteFacts (a : Accumulator) (m : Mem) (room space : ℕ) : Type 0 where
  pub fit : fits a m ≡ true
  pub started : is_started a.form ≡ true
  pub enough : a.sparse_len + a.pending_len ≤ room
  pub below : below_limit a.form a m ≡ true
  pub long : length (encode_of (state_form a.form a m)) ≤ space
  pub bytes : (write_outcome a m room space).bytes ≡ encode_of (state_form a.form a m)

pub wrote_facts : (a : Accumulator) (m : Mem) (room space : ℕ) → (write_outcome a m room space).answer ≡ 0 → WroteFacts a m room space
unfolding write_outcome
wrote_facts a m room space e =
    let st = state_form a.form a m in
    let x₄ = encode_step st space in
    let q₄ = below_limit a.form a m in
    let x₃ = unless q₄ 22 x₄ in
    let q₃ = leb (a.sparse_len + a.pending_len) room in
    let x₂ = unless q₃ 17 x₃ in
    let q₂ = is_started a.form in
    let x₁ = unless q₂ 21 x₂ in
    let y₁ : fits a m ≡ true = passes (fits a m) 1 x₁ (let h : 0 < 1 = omega arith in h) e in
    let e₁ : x₁.answer ≡ 0 = ap (λ (o : Output). o.answer) (sym (go 1 y₁)) ∙ e in
    let y₂ : q₂ ≡ true = passes q₂ 21 x₂ (let h : 0 < 21 = omega arith in h) e₁ in
    let e₂ : x₂.answer ≡ 0 = ap (λ (o : Output). o.answer) (sym (go 21 y₂)) ∙ e₁ in
    let y₃ : q₃ ≡ true = passes q₃ 17 x₃ (let h : 0 < 17 = omega arith in h) e₂ in
    let e₃ : x₃.answer ≡ 0 = ap (λ (o : Output). o.answer) (sym (go 17 y₃)) ∙ e₂ in
    let y₄ : q₄ ≡ true = passes q₄ 22 x₄ (let h : 0 < 22 = omega arith in h) e₃ in
    let e₄ : x₄.answer ≡ 0 = ap (λ (o : Output). o.answer) (sym (go 22 y₄)) ∙ e₃ in
    let long : length (encode_of st) ≤ space =
    ⊎_elim
    (λ (h : space < length (encode_of st)).
    absurd (let z : ⊥ = omega (arith, ap (λ (o : Output). o.answer) (encode_no st space h)) in z))
    (λ (h : length (encode_of st) ≤ space). h) (side space (length (encode_of st))) in
    record {
      fit = y₁;
      started = y₂;
      enough = leb-true (a.sparse_len + a.pending_len) room y₃;
      below = y₄;
      long = long;
      bytes = ap (λ (o : Output). o.bytes) (go 1 y₁ ∙ go 21 y₂ ∙ go 17 y₃ ∙ go 22 y₄ ∙ encode_yes st space long);
    }

-- The state by its form, and 22 of a list.
module _ (a : Accumulator) (m : Mem) where
  pub list_state_lem : a.form ≡ Sparse → state_form a.form a m ≡ state_with a (current_size a m) none (some (encode_list (flushed a m)))
  unfolding state_form
  list_state_lem e = ap (λ (f : Form). state_form f a m) e

  pub dense_state_lem : a.form ≡ Dense → state_form a.form a m ≡ state_with a a.sparse_size (some (registers_of a.precision m.registers)) none
  unfolding state_form
  dense_state_lem e = ap (λ (f : Form). state_form f a m) e

  pub list_below : a.form ≡ Sparse → below_limit a.form a m ≡ true → written (flushed a m) < limit a.precision
  unfolding below_limit
  list_below e h =
      ltb-true (written (flushed a m)) (limit a.precision) (ap (λ (f : Form). below_limit f a m) (sym e) ∙ h)

  -- The one list, of a head that fits: in order and valid, and not many.
  module _ (fit : FitSparse a m) where
    by_count : (P : List ℕ → Type 0) → P (kept_of a m) → P (merged a.precision a.sparse_precision (kept_of a m) (waiting_of a m)) → P (flushed a m)
    by_count P x y =
        ⊎_elim (λ (h : 0 < a.pending_len). subst P (sym (flushed_some a m (λ (z : a.pending_len ≡ 0). let n : ⊥ = omega arith in n))) y)
        (λ (h : a.pending_len ≤ 0). subst P (sym (flushed_none a m (let z : a.pending_len ≡ 0 = omega arith in z))) x)
        (side 0 a.pending_len)

    pub flushed_order : ascends (flushed a m) ≡ true
    flushed_order =
        by_count (λ (l : List ℕ). ascends l ≡ true) fit.order (merged_ascends a.precision a.sparse_precision (kept_of a m) (waiting_of a m))

    pub flushed_valid : all_valid a.precision a.sparse_precision (flushed a m) ≡ true
    flushed_valid =
        by_count (λ (l : List ℕ). all_valid a.precision a.sparse_precision l ≡ true) fit.kept_valid
        (merged_valid a.precision a.sparse_precision (kept_of a m) (waiting_of a m) fit.kept_valid fit.waiting_valid)

    pub size_fits : a.sparse_size < 2 ^ 32 → current_size a m < 2 ^ 32
    size_fits h =
        let l = merged a.precision a.sparse_precision (kept_of a m) (waiting_of a m) in
        ⊎_elim
        (λ (k : 0 < a.pending_len).
        omega (
          arith,
          size_some a m (λ (z : a.pending_len ≡ 0). let n : ⊥ = omega arith in n),
          distinct_le a.precision a.sparse_precision l,
          length_merged a.precision a.sparse_precision (kept_of a m) (waiting_of a m),
          length-take-le a.sparse_len m.sparse fit.kept_in,
          length-take-le a.pending_len m.pending fit.waiting_in,
          counts_short fit,
        ))
        (λ (k : a.pending_len ≤ 0). omega (arith, size_none a m (let z : a.pending_len ≡ 0 = omega arith in z)))
        (side 0 a.pending_len)

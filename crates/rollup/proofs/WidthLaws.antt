-- The numbers of a head fit their widths after every call: what they are made of was read from a state, or wraps, or counts values.
use Rattle.std.proofs.Common.{◌≡◌, ℕ, ◌+◌, ◌%◌, ◌^◌, ◌<◌, true, false, ltb, List, ◌++◌, length, sym, refl, subst, ⊎_elim, mod-lt, arith, length-append, length-take-le}
use Rattle.wire.specs.Reading.{Read, got, refused}
use Rattle.wire.specs.State.{State, empty_state, read_state}
use Rattle.wire.proofs.BoolLaws.{whichever}
use Rattle.wire.proofs.BoundLaws.{sparse_precision_small, sparse_size_small, count_small, value_type_small}
use Rattle.lists.proofs.MergeLaws.{length_merged}
use Rattle.rollup.specs.declared.accumulator.Form.{Form}
use Rattle.rollup.specs.declared.accumulator.Form.TheVariants.{Unstarted, Sparse, Dense}
use Rattle.rollup.specs.declared.accumulator.Accumulator.{Accumulator}
use Rattle.rollup.specs.declared.incoming.Incoming.{Incoming}
use Rattle.rollup.specs.Accumulator.{Mem, kept_of, waiting_of, limit, fits, fresh, HeadWidths}
use Rattle.rollup.specs.Header.{data_of, is_empty}
use Rattle.rollup.specs.Taking.{After, counted, start_after, settle, waits, inserts, all_merged, sparse_after, signed_key, dense_after, taken_after}
use Rattle.rollup.specs.Adding.{state_numbers}
use Rattle.rollup.specs.Stages.{TakePre}
use Rattle.rollup.specs.Calls.{Call, Steps, begun, adding, writing, moving, Run, value_or, state_in, values_in}
use Rattle.rollup.proofs.FitLaws.{FitSparse, fit_sparse, counts_short}
use Rattle.rollup.proofs.TakeLaws.{ready_takes}
use Rattle.rollup.proofs.WaysLaws.{start_ways, settle_ways, list_ways, sparse_ways}
use Rattle.rollup.proofs.ViewLaws.{IsRefused, IsAccepted, add_view, fresh_fits, steps_fit}

-- The same of what comes in; a state's numbers have them.
pub record NumberWidths (x : Incoming) : Type 0 where
  pub value_type : x.value_type < 2 ^ 32
  pub count : x.num_values < 2 ^ 64
  pub sparse_precision : x.sparse_precision < 2 ^ 32
  pub size : x.sparse_size < 2 ^ 32

pub state_widths : (bytes vs : List ℕ) → NumberWidths (state_numbers (state_in bytes) vs)
unfolding state_in
state_widths bytes vs = go (read_state bytes) refl
  where
    go : (y : Read State) → read_state bytes ≡ y → NumberWidths (state_numbers (value_or empty_state y) vs)
    go (refused n) e = record { value_type = omega arith; count = omega arith; sparse_precision = omega arith; size = omega arith }
    go (got st l) e =
        record {
          value_type = value_type_small bytes st l e;
          count = count_small bytes st l e;
          sparse_precision = sparse_precision_small bytes st l e;
          size = sparse_size_small bytes st l e;
        }

abbrev Wide : After → Type 0
Wide y = HeadWidths y.head

module _ (a : Accumulator) (m : Mem) (room : ℕ) (x : Incoming) (row vs : List ℕ) (pre : TakePre a m room x row vs) (w : HeadWidths a) (given : NumberWidths x) where
  start_widths : Wide (start_after m x row vs)
  start_widths =
      start_ways Wide m x row vs
      (λ (e : is_empty row ≡ true). record { value_type = given.value_type; count = given.count; sparse_precision = given.sparse_precision; size = given.size })
      (λ (e : is_empty row ≡ false). record { value_type = given.value_type; count = given.count; sparse_precision = given.sparse_precision; size = given.size })

  sum_small : (a.num_values + x.num_values) % 2 ^ 64 < 2 ^ 64
  sum_small = mod-lt (a.num_values + x.num_values) (let h : 0 < 2 ^ 64 = omega arith in h)

  module _ (form : a.form ≡ Sparse) where
    -- A merge has fewer than 2^32 values.
    few : length (all_merged a m vs) < 2 ^ 32
    few =
        let fit : FitSparse a m = fit_sparse a m pre.fit form in
        omega (
          arith,
          length_merged a.precision a.sparse_precision (kept_of a m) (waiting_of a m ++ vs),
          length-append (waiting_of a m) vs,
          length-take-le a.sparse_len m.sparse fit.kept_in,
          length-take-le a.pending_len m.pending fit.waiting_in,
          counts_short fit,
          pre.incoming_short,
        )

    merge_widths : (bytes : ℕ) → Wide (settle (counted a x) m.registers (all_merged a m vs) bytes)
    merge_widths bytes =
        settle_ways Wide (counted a x) m.registers (all_merged a m vs) bytes
        (λ (e : ltb bytes (limit a.precision) ≡ true). record { value_type = w.value_type; count = sum_small; sparse_precision = w.sparse_precision; size = few })
        (λ (e : ltb bytes (limit a.precision) ≡ false).
        record { value_type = w.value_type; count = sum_small; sparse_precision = w.sparse_precision; size = omega arith })

    sparse_widths : Wide (sparse_after a m x row vs)
    sparse_widths =
        sparse_ways Wide a m x row vs
        (λ (e : is_empty row ≡ true).
        list_ways Wide (counted a x) m vs a x refl
        (λ (e : length vs ≡ 0). record { value_type = w.value_type; count = sum_small; sparse_precision = w.sparse_precision; size = w.size })
        (λ (e : waits a x (length vs) ≡ true). record { value_type = w.value_type; count = sum_small; sparse_precision = w.sparse_precision; size = w.size })
        (merge_widths _) (λ (z : a.pending_len ≡ 0) (e : inserts a (kept_of a m) (length vs) ≡ true). merge_widths _))
        (λ (e : is_empty row ≡ false).
        record { value_type = w.value_type; count = sum_small; sparse_precision = w.sparse_precision; size = omega arith })

  dense_widths : Wide (dense_after a m x row vs)
  unfolding dense_after
  dense_widths =
      record {
        value_type = w.value_type;
        count = sum_small;
        sparse_precision =
            whichever (λ (k : ℕ). k < 2 ^ 32) (ltb (signed_key x.sparse_precision) (signed_key a.sparse_precision)) x.sparse_precision
            a.sparse_precision given.sparse_precision w.sparse_precision;
        size = w.size;
      }

  pub taken_widths : Wide (taken_after a.form a m x row vs)
  taken_widths = by_form a.form refl
    where
      by_form : (f : Form) → a.form ≡ f → Wide (taken_after f a m x row vs)
      by_form Unstarted e = start_widths
      by_form Sparse e = sparse_widths e
      by_form Dense e = dense_widths

pub steps_widths : {a₀ : Accumulator} {m₀ : Mem} {calls : List Call} {a : Accumulator} {m : Mem} → Steps a₀ m₀ calls a m → fits a₀ m₀ ≡ true → HeadWidths a₀
    → HeadWidths a
steps_widths begun fit w = w
steps_widths (adding {a = a} {m = m} room bytes answer head n steps post) fit w =
    ⊎_elim (λ (x : IsRefused a m answer head n). subst HeadWidths (sym x.same.head) (steps_widths steps fit w))
    (λ (x : IsAccepted a m room bytes answer head n).
    let st = state_in bytes in
    let vs = values_in st in
    subst HeadWidths (sym x.shows.head)
    (taken_widths a m room (state_numbers st vs) (data_of st) vs (ready_takes x.ready) (steps_widths steps fit w) (state_widths bytes vs)))
    (add_view a m room bytes answer head n (steps_fit steps fit) post)
steps_widths (writing room out answer len n after steps post) fit w = steps_widths steps fit w
steps_widths (moving n steps post) fit w = steps_widths steps fit w

pub fresh_widths : HeadWidths fresh
fresh_widths = record { value_type = omega arith; count = omega arith; sparse_precision = omega arith; size = omega arith }

-- So `WrittenReads` and `NoPrefixAccepted` speak of every run.
pub run_widths : {first : Mem} {calls : List Call} {a : Accumulator} {m : Mem} → Run first calls a m → HeadWidths a
run_widths {first = m} run = steps_widths run (fresh_fits m) fresh_widths

-- Taking in: an accepted state can be taken in, and what each form requires of what comes in.
use Rattle.std.proofs.Common.{◌≡◌, ℕ, ◌<◌, ◌≤◌, true, List, [], length, take, refl, Option, length-take-le, le_of_eq, arith}
use Rattle.wire.specs.Reading.{got}
use Rattle.wire.specs.State.{State}
use Rattle.lists.proofs.DecodingLaws.{accepted}
use Rattle.rollup.specs.declared.accumulator.Form.{Form}
use Rattle.rollup.specs.declared.accumulator.Form.TheVariants.{Unstarted, Sparse, Dense}
use Rattle.rollup.specs.declared.accumulator.Accumulator.{Accumulator}
use Rattle.rollup.specs.declared.incoming.Incoming.{Incoming}
use Rattle.rollup.specs.Accumulator.{Mem, fits}
use Rattle.rollup.specs.Header.{data_of, list_of}
use Rattle.rollup.specs.declared.paths.Path.{Path}
use Rattle.rollup.specs.Adding.{state_numbers, judge_answer, has_room, listed_in}
use Rattle.rollup.specs.Stages.{DensePre, TakePre, TakingPre}
use Rattle.rollup.proofs.FitLaws.{fit_none, fit_sparse, fit_dense}
use Rattle.rollup.proofs.JudgeLaws.{judged_facts, room_facts}

-- ---- a head that fits

-- The values that are kept are there, whatever the form.
pub fit_kept : (a : Accumulator) (m : Mem) → fits a m ≡ true → a.sparse_len ≤ length m.sparse
fit_kept a m e = by_form a.form refl
  where
    by_form : (f : Form) → a.form ≡ f → a.sparse_len ≤ length m.sparse
    by_form Unstarted f = omega (arith, (fit_none a m e f).no_kept)
    by_form Sparse f = (fit_sparse a m e f).kept_in
    by_form Dense f = omega (arith, (fit_dense a m e f).none.no_kept)

-- ---- a state

-- Every question was answered with yes.
pub record Ready (a : Accumulator) (m : Mem) (room : ℕ) (st : State) (vs : List ℕ) : Type 0 where
  pub fit : fits a m ≡ true
  pub judged : judge_answer a st ≡ 0
  pub space : has_room a m room st ≡ true
  pub listed : listed_in st ≡ got vs []
  pub short : length (list_of st) ≤ 2147483647

pub ready_takes : {a : Accumulator} {m : Mem} {room : ℕ} {st : State} {vs : List ℕ} → Ready a m room st vs → TakePre a m room (state_numbers st vs) (data_of st) vs
ready_takes {a} {m} {room} {st} {vs} ready =
    let j = judged_facts a st ready.judged in
    let r = room_facts a m room st ready.space in
    let l = accepted st.hll.precision st.hll.sparse_precision (list_of st) ready.listed in
    -- There are no more values than bytes.
    let some : 0 < length vs → 0 < length (list_of st) = λ (h : 0 < length vs). omega (arith, l.fewer) in
    record {
      fit = ready.fit;
      low = j.low;
      high = j.high;
      sparse = j.sparse;
      size = j.size;
      small = omega (arith, j.registers);
      pair = j.pair;
      order = l.rises;
      all = l.all;
      same_normal = j.same_normal;
      same_sparse = j.same_sparse;
      in_registers = r.registers;
      in_lists = λ (h : 0 < length vs).
          record {
            in_sparse = omega (arith, r.sparse (some h), l.fewer);
            in_pending = omega (arith, r.pending (some h), l.fewer);
            in_scratch = omega (arith, r.scratch (some h), l.fewer);
          };
      bytes_low = l.short;
      bytes_high = ready.short;
      incoming_short = omega (arith, l.fewer, ready.short);
      growth_low = le_of_eq refl;
      growth_high = omega (arith, l.fewer, ready.short);
      most = le_of_eq refl;
    }

-- ---- by the form

module _ {a : Accumulator} {m : Mem} {scratch : List ℕ} {x : Incoming} {path : Option Path} {row : List ℕ} {k : ℕ} (pre : TakingPre a m scratch x path row k) where
  abbrev vs : List ℕ
  vs = take k scratch

  values : length vs ≡ k
  values = length-take-le k scratch pre.inside

  pub dense_pre : a.form ≡ Dense → DensePre a m.registers scratch x row k
  dense_pre f =
      let t = pre.taken in
      let d = fit_dense a m t.fit f in
      record {
        inside = pre.inside;
        own_low = d.low;
        own = record { high = d.high; room = d.room; small = omega (arith, d.small, d.high) };
        low = t.low;
        lowers = record { high = t.high; size = t.size; small = omega (arith, t.small, t.high); pair = t.pair; all = t.all };
      }

-- One view of a call: it was refused, with a number and nothing changed, or accepted, with all that the questions told. And what follows of both:
-- whatever a call was and answered, what it leaves fits again. No file but AddLaws and this one looks at the questions of `add_outcome`.
use Rattle.std.proofs.Common.{◌≡◌, ℕ, ◌^◌, ◌<◌, Bool, true, false, ◌⊎◌, List, [], ◌++◌, sym, refl, ap, ◌∙◌, subst, inl, inr, ⊎_elim, arith}
use Rattle.wire.specs.Reading.{Read, got, refused}
use Rattle.wire.specs.State.{State, empty_state, read_state}
use Rattle.wire.proofs.BoundLaws.{sparse_precision_small}
use Rattle.lists.proofs.DecodingLaws.{accepted, decode_number}
use Rattle.rollup.specs.declared.accumulator.Accumulator.{Accumulator}
use Rattle.rollup.specs.Accumulator.{Mem, fits, fresh}
use Rattle.rollup.specs.Header.{data_of, list_of}
use Rattle.rollup.specs.Adding.{Outcome, refuse, accept, accepted_after, judge, has_room, listed_in, add_outcome, state_numbers, AddPost}
use Rattle.rollup.specs.Calls.{Call, Steps, begun, adding, writing, moving, Run, value_or, state_in, values_in}
use Rattle.rollup.specs.Taking.{unchanged, Shows}
use Rattle.rollup.proofs.FitLaws.{fit_none_back}
use Rattle.rollup.proofs.JudgeLaws.{JudgedRead, judge_got, judge_number, list_short}
use Rattle.rollup.proofs.AddLaws.{add_judged, add_full, add_listed, add_accepted}
use Rattle.rollup.proofs.TakeLaws.{Ready, ready_takes}
use Rattle.rollup.proofs.KeepsLaws.{taken_keeps, refused_keeps, write_keeps}

-- ---- the view

pub record IsRefused (a : Accumulator) (m : Mem) (answer : ℕ) (head : Accumulator) (n : Mem) : Type 0 where
  pub number : answer ≡ 0 → ⊥
  pub same : Shows (unchanged a m) head n

-- The bytes are a state and its list was read, so that `state_in` and `values_in` are what the definition went on with.
pub record IsAccepted (a : Accumulator) (m : Mem) (room : ℕ) (bytes : List ℕ) (answer : ℕ) (head : Accumulator) (n : Mem) : Type 0 where
  pub none : answer ≡ 0
  pub ready : Ready a m room (state_in bytes) (values_in (state_in bytes))
  pub shows : Shows (accepted_after a.form a m (state_in bytes) (values_in (state_in bytes))) head n

module _ (a : Accumulator) (m : Mem) (room : ℕ) (bytes : List ℕ) (answer : ℕ) (head : Accumulator) (n : Mem) (fit : fits a m ≡ true)
    (post : AddPost a m room bytes answer head n) where
  abbrev View : Type 0
  View = IsRefused a m answer head n ⊎ IsAccepted a m room bytes answer head n

  with_number_lem : (k : ℕ) → 0 < k → add_outcome a m room bytes ≡ refuse k a m → View
  with_number_lem k h e =
      inl (record {
        number = λ (z : answer ≡ 0).
            let f : k ≡ 0 = sym (ap (λ (x : Outcome). x.answer) e) ∙ sym post.answered ∙ z in
            omega arith;
        same = subst (λ (x : Outcome). Shows x.after head n) e post.after;
      })

  with_state : (st : State) (vs : List ℕ) → state_in bytes ≡ st → values_in st ≡ vs → Ready a m room st vs
      → add_outcome a m room bytes ≡ accept (accepted_after a.form a m st vs) → View
  with_state st vs s v ready e =
      inr (record {
        none = post.answered ∙ ap (λ (x : Outcome). x.answer) e;
        ready =
            subst (λ (x : State). Ready a m room x (values_in x)) (sym s) (subst (λ (l : List ℕ). Ready a m room st l) (sym v) ready);
        shows =
            subst (λ (x : State). Shows (accepted_after a.form a m x (values_in x)) head n) (sym s)
            (subst (λ (l : List ℕ). Shows (accepted_after a.form a m st l) head n) (sym v)
            (subst (λ (x : Outcome). Shows x.after head n) e post.after));
      })

  pub add_view : View
  unfolding state_in values_in
  add_view = by_judge (judge a bytes) refl
    where
      by_list : (st : State) (rest : List ℕ) → judge a bytes ≡ got st rest → JudgedRead a bytes st → has_room a m room st ≡ true
          → (x : Read (List ℕ)) → listed_in st ≡ x → View
      by_list st rest f j h (refused k) e =
          with_number_lem k (decode_number st.hll.precision st.hll.sparse_precision (list_of st) k e) (add_listed a m room bytes st rest fit f k h e)
      by_list st rest f j h (got vs end) e =
          let whole : listed_in st ≡ got vs [] =
          e ∙ ap (got vs) (accepted st.hll.precision st.hll.sparse_precision (list_of st) e).end in
          with_state st vs (ap (value_or empty_state) j.header.read) (ap (value_or []) whole)
          (record {
            fit = fit;
            judged = j.judged;
            space = h;
            listed = whole;
            short = list_short a bytes st j;
          }) (add_accepted a m room bytes st rest fit f vs end h e)

      by_room : (st : State) (rest : List ℕ) → judge a bytes ≡ got st rest → (b : Bool) → has_room a m room st ≡ b → View
      by_room st rest f true h = by_list st rest f (judge_got a bytes st rest f) h (listed_in st) refl
      by_room st rest f false h = with_number_lem 17 (omega arith) (add_full a m room bytes st rest fit f h)

      by_judge : (x : Read State) → judge a bytes ≡ x → View
      by_judge (refused k) e = with_number_lem k (judge_number a bytes k e) (add_judged a m room bytes k fit e)
      by_judge (got st rest) e = by_room st rest e (has_room a m room st) refl

  -- "After every call": a head that fits is left by one that was accepted and by one that was refused.
  pub add_keeps : fits head n ≡ true
  add_keeps =
      ⊎_elim (λ (x : IsRefused a m answer head n). refused_keeps a m fit 0 head n x.same)
      (λ (x : IsAccepted a m room bytes answer head n).
      let st = state_in bytes in
      taken_keeps a m room (state_numbers st (values_in st)) (data_of st) (values_in st) (ready_takes x.ready) head n x.shows) add_view

-- ---- lists of calls

-- Steps after steps.
pub steps_after : {a₀ : Accumulator} {m₀ : Mem} {c d : List Call} {a : Accumulator} {m : Mem} {b : Accumulator} {n : Mem} → Steps a₀ m₀ c a m → Steps a m d b n
    → Steps a₀ m₀ (d ++ c) b n
steps_after s begun = s
steps_after s (adding room bytes answer head n t post) = adding room bytes answer head n (steps_after s t) post
steps_after s (writing room out answer len n after t post) = writing room out answer len n after (steps_after s t) post
steps_after s (moving n t post) = moving n (steps_after s t) post

pub fresh_fits : (m : Mem) → fits fresh m ≡ true
fresh_fits m = fit_none_back fresh m refl (record { no_kept = refl; no_waiting = refl })

-- From a head that fits on, each call gets one that fits, so that question 1 is answered with yes all along.
pub steps_fit : {a₀ : Accumulator} {m₀ : Mem} {calls : List Call} {a : Accumulator} {m : Mem} → Steps a₀ m₀ calls a m → fits a₀ m₀ ≡ true → fits a m ≡ true
steps_fit begun fit = fit
steps_fit (adding {a = a} {m = m} room bytes answer head n steps post) fit = add_keeps a m room bytes answer head n (steps_fit steps fit) post
steps_fit (writing {a = a} {m = m} room out answer len n after steps post) fit = write_keeps a m room out answer len n after (steps_fit steps fit) post
steps_fit (moving n steps post) fit = post.fit

pub run_fits : {first : Mem} {calls : List Call} {a : Accumulator} {m : Mem} → Run first calls a m → fits a m ≡ true
run_fits {first = m} run = steps_fit run (fresh_fits m)

-- Whatever the bytes are, the sparse precision of their state is a number of 32 bits.
pub sparse_small : (bytes : List ℕ) → (state_in bytes).hll.sparse_precision < 2 ^ 32
unfolding state_in
sparse_small bytes = go (read_state bytes) refl
  where
    go : (x : Read State) → read_state bytes ≡ x → (value_or empty_state x).hll.sparse_precision < 2 ^ 32
    go (refused n) e = omega arith
    go (got st l) e = sparse_precision_small bytes st l e

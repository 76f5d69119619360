-- Adding: the questions one after the other, and what a refusal and an accepted state leave. `add_outcome` is unfolded here alone.
use Rattle.std.proofs.Common.{◌≡◌, ℕ, ◌*◌, ◌≤◌, Bool, true, false, List, [], length, take, sym, refl, ap, ◌∙◌, subst, ap₂, arith, length-take-le, Option, Ok, Err}
use mathlib.Core.List.Permᴰ
use mathlib.Core.List.{Permᴰ}
use Rattle.wire.specs.Reading.{Read, got, refused}
use Rattle.wire.specs.State.{State}
use Rattle.wire.specs.declared.view.StateView.{StateView}
use Rattle.lists.specs.Lists.{Decodes}
use Rattle.lists.specs.declared.decoding.DecodeError.{DecodeError}
use Rattle.lists.proofs.DecodingLaws.{accepted}
use Rattle.rollup.specs.declared.refusal.Refusal.{Refusal}
use Rattle.rollup.specs.declared.refusal.Refusal.TheVariants.{BadList}
use Rattle.rollup.specs.Refusals.{number}
use Rattle.rollup.specs.declared.accumulator.Accumulator.{Accumulator}
use Rattle.rollup.specs.declared.incoming.Incoming.{Incoming}
use Rattle.rollup.specs.declared.paths.Path.{Path}
use Rattle.rollup.specs.declared.adding.Fitted.{Fitted}
use Rattle.rollup.specs.Accumulator.{Mem, kept_of, fits}
use Rattle.rollup.specs.Header.{viewed, data_of, list_of}
use Rattle.rollup.specs.Taking.{After, path_of, taken_after, Shows, Free}
use Rattle.rollup.specs.Adding.{Outcome, refuse, accept, numbers_of, state_numbers, accepted_after, judge, has_room, listed_in, question, opened, add_outcome, judge_answer, AddPost}
use Rattle.rollup.specs.Judging.{JudgePost, RoomPre, ListedPre}
use Rattle.rollup.specs.Stages.{KnownDistinct, InsertsPre, PathPre, distinct_after, AcceptPre, AcceptPost, FittingPost}
use Rattle.rollup.proofs.FitLaws.{fit_sparse}
use Rattle.rollup.proofs.JudgeLaws.{judged_state, judged_short, listed_pre}
use Rattle.rollup.proofs.TakeLaws.{fit_kept, Ready, ready_takes}
use Rattle.rollup.proofs.KeepsLaws.{taken_keeps}
use Rattle.rollup.proofs.DistinctLaws.{distinct_after_lem}

-- ---- a question that is answered with yes, and one with no

go : {q : Bool} (n : ℕ) (a : Accumulator) (m : Mem) {next : Outcome} → q ≡ true → question q n a m next ≡ next
go n a m {next} e = ap (λ (t : Bool). question t n a m next) e

stop : {q : Bool} (n : ℕ) (a : Accumulator) (m : Mem) (next : Outcome) → q ≡ false → question q n a m next ≡ refuse n a m
stop n a m next e = ap (λ (t : Bool). question t n a m next) e

go_on : {A : Type 0} {r : Read A} {x : A} {l : List ℕ} (a : Accumulator) (m : Mem) (next : A → Outcome) → r ≡ got x l → opened r a m next ≡ next x
go_on a m next e = ap (λ (t : Read _). opened t a m next) e

stop_at : {A : Type 0} {r : Read A} {n : ℕ} (a : Accumulator) (m : Mem) (next : A → Outcome) → r ≡ refused n → opened r a m next ≡ refuse n a m
stop_at a m next e = ap (λ (t : Read _). opened t a m next) e

-- ---- the questions in order

module _ (a : Accumulator) (m : Mem) (room : ℕ) (bytes : List ℕ) where
  -- What follows question 1, question 16 and question 17.
  abbrev listing : State → Outcome
  listing st = opened (listed_in st) a m (λ (vs : List ℕ). accept (accepted_after a.form a m st vs))

  abbrev spacing : State → Outcome
  spacing st = question (has_room a m room st) 17 a m (listing st)

  abbrev judging : Outcome
  judging = opened (judge a bytes) a m spacing

  to_judging : fits a m ≡ true → add_outcome a m room bytes ≡ judging
  unfolding add_outcome
  to_judging e = go 1 a m e

  pub add_unfit : fits a m ≡ false → add_outcome a m room bytes ≡ refuse 1 a m
  unfolding add_outcome
  add_unfit e = stop 1 a m judging e

  pub add_judged : (n : ℕ) → fits a m ≡ true → judge a bytes ≡ refused n → add_outcome a m room bytes ≡ refuse n a m
  add_judged n e f = to_judging e ∙ stop_at a m spacing f

  module _ (st : State) (rest : List ℕ) (fit : fits a m ≡ true) (judged : judge a bytes ≡ got st rest) where
    pub add_full : has_room a m room st ≡ false → add_outcome a m room bytes ≡ refuse 17 a m
    add_full e = to_judging fit ∙ go_on a m spacing judged ∙ stop 17 a m (listing st) e

    to_listing : has_room a m room st ≡ true → add_outcome a m room bytes ≡ listing st
    to_listing e = to_judging fit ∙ go_on a m spacing judged ∙ go 17 a m e

    pub add_listed : (n : ℕ) → has_room a m room st ≡ true → listed_in st ≡ refused n → add_outcome a m room bytes ≡ refuse n a m
    add_listed n e f = to_listing e ∙ stop_at a m (λ (vs : List ℕ). accept (accepted_after a.form a m st vs)) f

    pub add_accepted : (vs end : List ℕ) → has_room a m room st ≡ true → listed_in st ≡ got vs end
        → add_outcome a m room bytes ≡ accept (accepted_after a.form a m st vs)
    add_accepted vs end e f = to_listing e ∙ go_on a m (λ (vs : List ℕ). accept (accepted_after a.form a m st vs)) f

  -- ---- what is left

  pub refused_post : (n : ℕ) → add_outcome a m room bytes ≡ refuse n a m → AddPost a m room bytes n a m
  refused_post n e =
      record {
        answered = ap (λ (x : Outcome). x.answer) (sym e);
        after =
            record {
              head = ap (λ (x : Outcome). x.after.head) (sym e);
              registers = ap (λ (x : Outcome). x.after.registers) (sym e);
              kept = ap (λ (x : Outcome). x.after.kept) (sym e);
              waiting = subst (λ (x : Outcome). Permᴰ (refuse n a m).after.waiting x.after.waiting) (sym e) (Permᴰ.refl (refuse n a m).after.waiting);
            };
        free = record { registers = refl; sparse = refl; pending = refl };
      }

  pub accepted_post : (x : After) (h : Accumulator) (n : Mem) → add_outcome a m room bytes ≡ accept x → Shows x h n → Free m n
      → AddPost a m room bytes 0 h n
  accepted_post x h n e shows same =
      record {
        answered = ap (λ (y : Outcome). y.answer) (sym e);
        after = subst (λ (y : Outcome). Shows y.after h n) (sym e) shows;
        free = same;
      }

-- ---- an accepted state goes its path

module _ {a : Accumulator} {distinct : Bool} {m : Mem} {scratch : List ℕ} {st : State} {k : ℕ} (pre : AcceptPre a distinct m scratch st k) where
  abbrev vs : List ℕ
  vs = take k scratch

  count : length vs ≡ k
  count = length-take-le k scratch pre.inside

  pub accept_few : k ≤ 2147483647
  accept_few = omega (arith, count, pre.taken.incoming_short)

  -- The values that are kept are there, whatever the form.
  pub accept_kept : a.sparse_len ≤ length m.sparse
  accept_kept = fit_kept a m pre.taken.fit

  module _ {x : Incoming} (numbers : x ≡ numbers_of st (length (list_of st)) k) {kept : List ℕ} (there : kept ≡ kept_of a m) where
    the_state : x ≡ state_numbers st vs
    the_state = numbers ∙ ap (numbers_of st (length (list_of st))) (sym count)

    pub accept_path : PathPre a x kept k distinct
    accept_path f =
        let s = fit_sparse a m pre.taken.fit f in (
          record {
            low = s.pair.low;
            high = s.pair.high;
            bytes = s.bytes_high;
            few = s.few;
            growth = subst (λ (y : Incoming). y.growth ≤ 5 * 2147483647) (sym the_state) pre.taken.growth_high;
            incoming = accept_few;
          },
          subst (λ (l : List ℕ). InsertsPre a l distinct) (sym there)
              (record { pair = s.pair; order = s.order; all = s.kept_valid; known = pre.known }),
        )

    module _ {path : Option Path} (its : path ≡ path_of a.form a kept x k) {row : List ℕ} (same : row ≡ data_of st) where
      its_path : path ≡ path_of a.form a (kept_of a m) x k
      its_path = its ∙ ap (λ (l : List ℕ). path_of a.form a l x k) there

      pub accept_post : {known : Bool} → known ≡ distinct_after a.form path distinct → {r : Accumulator} {n : Mem}
          → Shows (taken_after a.form a m x row vs) r n → AcceptPost a m st vs (record { head = r; distinct = known }) n
      accept_post {known} e {r} {n} shows =
          let shown : Shows (accepted_after a.form a m st vs) r n =
          subst (λ (y : Incoming). Shows (taken_after a.form a m y (data_of st) vs) r n) the_state
          (subst (λ (l : List ℕ). Shows (taken_after a.form a m x l vs) r n) same shows) in
          record {
            after = shown;
            known =
                subst (λ (b : Bool). KnownDistinct b r.precision r.sparse_precision (kept_of r n)) (sym e)
                (distinct_after_lem pre.taken distinct pre.known path
                (its_path ∙ ap₂ (λ (y : Incoming) (j : ℕ). path_of a.form a (kept_of a m) y j) the_state (sym count)) r n shown);
          }

-- ---- the stages, as the code has them

-- A list that is refused, and one that is read.
listed_no : (x : Read (List ℕ)) (e : DecodeError) (out : List ℕ) → Decodes x (Err e) out → x ≡ refused (number (BadList e))
listed_no (got vs l) e out d = absurd d
listed_no (refused k) e out d = ap refused (sym d)

record Listed (x : Read (List ℕ)) (k : ℕ) (out : List ℕ) : Type 0 where
  rest : List ℕ
  read : x ≡ got (take k out) rest
  count : k ≡ length (take k out)

listed_yes : (x : Read (List ℕ)) (k : ℕ) (out : List ℕ) → Decodes x (Ok k) out → Listed x k out
listed_yes (got vs l) k out e =
    record { rest = l; read = ap (λ (v : List ℕ). got v l) (sym e.1); count = e.0 ∙ ap length (sym e.1) }
listed_yes (refused n) k out e = absurd e

module _ (a : Accumulator) (m : Mem) (room : ℕ) (bytes : List ℕ) (fit : fits a m ≡ true) where
  pub judge_stop : (e : Refusal) → JudgePost a bytes (Err e) → AddPost a m room bytes (number e) a m
  judge_stop e post = refused_post a m room bytes (number e) (add_judged a m room bytes (number e) fit (sym post.answer))

  module _ (v : StateView) (post : JudgePost a bytes (Ok v)) where
    state_judged : judge_answer a (viewed v) ≡ 0
    state_judged = judged_state a bytes v post

    pub room_pre : RoomPre a m (viewed v)
    room_pre = record { fit = fit; judged = state_judged; short = judged_short a bytes v post }

    pub room_stop : has_room a m room (viewed v) ≡ false → AddPost a m room bytes 17 a m
    room_stop h = refused_post a m room bytes 17 (add_full a m room bytes (viewed v) [] fit (sym post.answer) h)

    module _ (there : has_room a m room (viewed v) ≡ true) where
      pub list_pre : ListedPre (viewed v) room
      list_pre = listed_pre a m room (viewed v) state_judged there

      pub list_stop : (e : DecodeError) (out : List ℕ) → Decodes (listed_in (viewed v)) (Err e) out → AddPost a m room bytes (number (BadList e)) a m
      list_stop e out x =
          refused_post a m room bytes (number (BadList e))
          (add_listed a m room bytes (viewed v) [] fit (sym post.answer) (number (BadList e)) there (listed_no (listed_in (viewed v)) e out x))

      module _ (k : ℕ) (out : List ℕ) (x : Decodes (listed_in (viewed v)) (Ok k) out) (same : length out ≡ room) where
        values : Listed (listed_in (viewed v)) k out
        values = listed_yes (listed_in (viewed v)) k out x

        list_end : listed_in (viewed v) ≡ got (take k out) []
        list_end =
            values.read
            ∙ ap (λ (l : List ℕ). got (take k out) l)
            (accepted v.fields.hll.precision v.fields.hll.sparse_precision (list_of (viewed v)) values.read).end

        ready : Ready a m (length out) (viewed v) (take k out)
        ready =
            record {
              fit = fit;
              judged = state_judged;
              space = subst (λ (n : ℕ). has_room a m n (viewed v) ≡ true) (sym same) there;
              listed = list_end;
              short = judged_short a bytes v post;
            }

        pub accept_pre : (distinct : Bool) → KnownDistinct distinct a.precision a.sparse_precision (kept_of a m)
            → AcceptPre a distinct m out (viewed v) k
        accept_pre distinct known =
            let few = (accepted v.fields.hll.precision v.fields.hll.sparse_precision (list_of (viewed v)) values.read).fewer in
            record { inside = omega (arith, few, values.count, list_pre.space, same); taken = ready_takes ready; known = known }

        pub all_accepted : (r : Fitted) (n : Mem) → AcceptPost a m (viewed v) (take k out) r n → Free m n → FittingPost a m room bytes 0 r n
        all_accepted r n left free =
            record {
              added =
                  accepted_post a m room bytes (accepted_after a.form a m (viewed v) (take k out)) r.head n
                  (add_accepted a m room bytes (viewed v) [] fit (sym post.answer) (take k out) [] there list_end) left.after free;
              sound =
                  record {
                    fit =
                        taken_keeps a m (length out) (state_numbers (viewed v) (take k out)) (data_of (viewed v)) (take k out) (ready_takes ready) r.head n
                        left.after;
                    known = left.known;
                  };
            }

-- Adding many states: the ends that fit, the walk over the states so far with what is left of the ends, and the fold of a head that is a row.
use Prim.Native.Nat.{ℕ, suc, ◌+◌, ◌-◌, ◌<◌, ◌≤◌}
use mathlib.Core.Path.{◌≡◌, refl, sym, ap, ◌∙◌, subst}
use mathlib.Core.List.{List, [], ◌∷◌, ◌++◌, append_assoc, append-nil}
use mathlib.Core.Bool.{Bool, true, false, cond}
use native.Mathlib.Omega.{arith}
use lib.Dec.{leb}
use lib.ListN.{length, get_or, take, drop, set, length-set, length-append, drop_of_length-le}
use lib.Seq.{take_all, take-suc-set, drop-cons, drop-set-lt, drop-drop, length-take-le}
use borrow.Author.Tests.{le-leb, leb-true}
use Rattle.std.proofs.lemmas.Bool.{false_from_ne_true, true_from_ne_false}
use Rattle.wire.proofs.BoolLaws.{both, both_true}
use Rattle.rollup.specs.declared.accumulator.Accumulator.{Accumulator}
use Rattle.rollup.specs.Accumulator.{Mem, fits}
use Rattle.rollup.specs.Adding.{AddPost}
use Rattle.rollup.specs.Taking.{Free}
use Rattle.rollup.specs.Calls.{Call, added, Steps, begun, adding, Run}
use Rattle.rollup.proofs.AddLaws.{add_unfit, refused_post}
use Rattle.rollup.proofs.ViewLaws.{add_keeps, steps_after}
use Rattle.batch.specs.Batch.{added_all}
use Rattle.batch.proofs.RollLaws.{added_last, added_after, same_cells}
use Rattle.capi.specs.Folds.{between, splits, ends_fit, fold_fits, FoldedPre, FoldedPost, FoldPost, FoldGoesOn}

-- ---- ends that fit

-- Each is not before the last one.
ends_next : (size start end : ℕ) (ends : List ℕ) → ends_fit size start (end ∷ ends) ≡ true → (start ≤ end) × (ends_fit size end ends ≡ true)
unfolding ends_fit
ends_next size start end ends e =
    let x = both_true (leb start end) (ends_fit size end ends) e in
    (leb-true start end x.0, x.1)

-- Nor past the bytes.
ends_inside : (size start : ℕ) (ends : List ℕ) → ends_fit size start ends ≡ true → start ≤ size
unfolding ends_fit
ends_inside size start [] e = leb-true start size e
ends_inside size start (end ∷ ends) e =
    let x = both_true (leb start end) (ends_fit size end ends) e in
    omega (arith, leb-true start end x.0, ends_inside size end ends x.1)

-- One end, that of the bytes.
ends_one : (size : ℕ) → ends_fit size 0 (size ∷ []) ≡ true
unfolding ends_fit
ends_one size = both (le-leb 0 size (omega arith)) (le-leb size size (omega arith))

-- ---- the calls

-- Answers past the states do not count.
added_front : (room : ℕ) (states : List (List ℕ)) (answers : List ℕ) (calls : List Call) → length states ≤ length answers
    → added_all room states (take (length states) answers) calls ≡ added_all room states answers calls
unfolding added_all
added_front room [] answers calls h = refl
added_front room (s ∷ states) [] calls h = absurd (let z : ⊥ = omega arith in z)
added_front room (s ∷ states) (n ∷ answers) calls h =
    added_front room states answers (added room s n ∷ calls) (let z : length states ≤ length answers = omega arith in z)

splits_end : (bytes : List ℕ) (start : ℕ) → splits bytes start [] ≡ []
unfolding splits
splits_end bytes start = refl

splits_next : (bytes : List ℕ) (start end : ℕ) (ends : List ℕ) → splits bytes start (end ∷ ends) ≡ between bytes start end ∷ splits bytes end ends
unfolding splits
splits_next bytes start end ends = refl

-- ---- the walk

pub record Folding (a : Accumulator) (m : Mem) (room : ℕ) (bytes ends before : List ℕ) (start i : ℕ) (h : Accumulator) (n : Mem) (answers : List ℕ) : Type 0 where
  pub done : List (List ℕ)
  pub count : length done ≡ i
  pub few : i ≤ length ends
  pub room_left : length ends ≤ length before
  pub cells : length answers ≡ length before
  pub states : splits bytes 0 ends ≡ done ++ splits bytes start (drop i ends)
  pub cut : ends_fit (length bytes) start (drop i ends) ≡ true
  pub untouched : drop i answers ≡ drop i before
  pub fit : fits h n ≡ true
  pub steps : Steps a m (added_all room done (take i answers) []) h n
  pub free : Free m n

pub fold_start : {a : Accumulator} (m : Mem) (room : ℕ) {bytes ends before : List ℕ} → FoldedPre a m bytes ends before → Folding a m room bytes ends before 0 0 a m before
unfolding added_all
fold_start m room pre =
    record {
      done = [];
      count = refl;
      few = omega arith;
      room_left = pre.room;
      cells = refl;
      states = refl;
      cut = pre.cut;
      untouched = refl;
      fit = pre.fit;
      steps = begun;
      free = same_cells m;
    }

module _ {a : Accumulator} {m : Mem} {room : ℕ} {bytes ends before : List ℕ} {start i : ℕ} {h : Accumulator} {n : Mem} {answers : List ℕ}
    (g : Folding a m room bytes ends before start i h n answers) where
  module _ (inside : i < length ends) where
    rest : drop i ends ≡ get_or ends i 0 ∷ drop (i + 1) ends
    rest = drop-cons ends i 0 inside ∙ ap (λ (k : ℕ). get_or ends i 0 ∷ drop k ends) (let one : suc i ≡ i + 1 = omega arith in one)

    next : (start ≤ get_or ends i 0) × (ends_fit (length bytes) (get_or ends i 0) (drop (i + 1) ends) ≡ true)
    next =
        ends_next (length bytes) start (get_or ends i 0) (drop (i + 1) ends)
        (subst (λ (l : List ℕ). ends_fit (length bytes) start l ≡ true) rest g.cut)

    -- The state is in the bytes.
    pub state_in : (start ≤ get_or ends i 0) × (get_or ends i 0 ≤ length bytes)
    state_in = (next.0, ends_inside (length bytes) (get_or ends i 0) (drop (i + 1) ends) next.1)

    pub fold_turn : {answer : ℕ} {to : Accumulator} {l : Mem} → AddPost h n room (between bytes start (get_or ends i 0)) answer to l
        → Folding a m room bytes ends before (get_or ends i 0) (i + 1) to l (set answers i answer)
    fold_turn {answer} {to} {l} post =
        let end = get_or ends i 0 in
        let room_here : i < length answers = omega (arith, g.cells, g.room_left) in
        let put : take (i + 1) (set answers i answer) ≡ take i answers ++ answer ∷ [] =
        ap (λ (k : ℕ). take k (set answers i answer)) (let one : i + 1 ≡ suc i = omega arith in one) ∙ take-suc-set answers i answer room_here in
        let same : length g.done ≡ length (take i answers) = g.count ∙ sym (length-take-le i answers (let z : i ≤ length answers = omega arith in z)) in
        record {
          done = g.done ++ between bytes start end ∷ [];
          count = length-append g.done (between bytes start end ∷ []) ∙ ap (λ (x : ℕ). x + 1) g.count;
          few = omega arith;
          room_left = g.room_left;
          cells = length-set answers i answer ∙ g.cells;
          states =
              g.states
              ∙ ap (λ (x : List ℕ). g.done ++ splits bytes start x) rest
              ∙ ap (λ (x : List (List ℕ)). g.done ++ x) (splits_next bytes start end (drop (i + 1) ends))
              ∙ sym (append_assoc g.done (between bytes start end ∷ []) (splits bytes end (drop (i + 1) ends)));
          cut = next.1;
          untouched =
              drop-set-lt (i + 1) answers i answer (omega arith)
              ∙ sym (drop-drop 1 i answers)
              ∙ ap (λ (x : List ℕ). drop 1 x) g.untouched
              ∙ drop-drop 1 i before;
          fit = add_keeps h n room (between bytes start end) answer to l g.fit post;
          steps =
              subst (λ (c : List Call). Steps a m c to l)
              (sym
              (ap (λ (y : List ℕ). added_all room (g.done ++ between bytes start end ∷ []) y []) put
              ∙ added_last room g.done (take i answers) (between bytes start end) answer [] same))
              (adding room (between bytes start end) answer to l g.steps post);
          free =
              record {
                registers = post.free.registers ∙ g.free.registers;
                sparse = post.free.sparse ∙ g.free.sparse;
                pending = post.free.pending ∙ g.free.pending;
              };
        }

  pub fold_end : length ends ≤ i → FoldedPost a m room bytes ends before h n answers
  fold_end past =
      let all : i ≡ length ends = omega (arith, g.few) in
      let states : splits bytes 0 ends ≡ g.done =
      g.states
      ∙ ap (λ (x : List ℕ). g.done ++ splits bytes start x) (drop_of_length-le ends {i = i} past)
      ∙ ap (λ (x : List (List ℕ)). g.done ++ x) (splits_end bytes start)
      ∙ append-nil g.done in
      record {
        steps =
            subst (λ (c : List Call). Steps a m c h n)
            (ap (λ (k : ℕ). added_all room g.done (take k answers) []) (sym g.count)
            ∙ added_front room g.done answers [] (omega (arith, g.count, g.few, g.room_left, g.cells))
            ∙ ap (λ (y : List (List ℕ)). added_all room y answers []) (sym states)) g.steps;
        untouched = subst (λ (k : ℕ). drop k answers ≡ drop k before) all g.untouched;
        cells = g.cells;
        free = g.free;
      }

pub fold_goes_on : FoldGoesOn
unfolding FoldGoesOn
fold_goes_on a m room bytes ends answers r n left post first calls run =
    subst (λ (c : List Call). Run first c r n) (sym (added_after room (splits bytes 0 ends) left calls)) (steps_after run post.steps)

-- ---- what the answer says of question 1

module _ {a : Accumulator} {m : Mem} {room : ℕ} {bytes ends answers : List ℕ} {answer : ℕ} {r : Accumulator} {n : Mem} {left : List ℕ}
    (post : FoldPost a m room bytes ends answers answer r n left) where
  asked : (t : Bool) → fits a m ≡ t → answer ≡ cond t 0 1
  asked t e = post.answer_is ∙ ap (λ (b : Bool). cond b 0 1) e

  pub was_fit : answer ≡ 0 → fits a m ≡ true
  was_fit z = true_from_ne_false (fits a m) (λ (e : fits a m ≡ false). let y : ⊥ = omega (arith, asked false e) in y)

  pub was_unfit : (answer ≡ 0 → ⊥) → fits a m ≡ false
  was_unfit z = false_from_ne_true (fits a m) (λ (e : fits a m ≡ true). z (asked true e))

-- ---- one state

-- Its end is that of the bytes, and it has one cell.
pub one_fits : (bytes : List ℕ) (cell : ℕ) → fold_fits bytes (length bytes ∷ []) (cell ∷ []) ≡ true
one_fits bytes cell = both (le-leb 1 1 (omega arith)) (ends_one (length bytes))

-- One call is what it promises.
one_call : {a : Accumulator} {m : Mem} {room : ℕ} {s : List ℕ} {k : ℕ} {h : Accumulator} {n : Mem} → Steps a m (added room s k ∷ []) h n
    → AddPost a m room s k h n
one_call (adding room s k h n begun post) = post

one_added : (room : ℕ) (bytes left : List ℕ) → length left ≡ 1
    → added_all room (splits bytes 0 (length bytes ∷ [])) left [] ≡ added room (between bytes 0 (length bytes)) (get_or left 0 0) ∷ []
unfolding added_all splits
one_added room bytes [] e = absurd (let z : ⊥ = omega arith in z)
one_added room bytes (k ∷ left) e = refl

module _ {a : Accumulator} {m : Mem} {room : ℕ} {bytes : List ℕ} {cell answer : ℕ} {r : Accumulator} {n : Mem} {left : List ℕ}
    (post : FoldPost a m room bytes (length bytes ∷ []) (cell ∷ []) answer r n left) where
  pub one_state : answer ≡ 0 → AddPost a m room bytes (get_or left 0 0) r n
  one_state z =
      let folded = post.folded (was_fit post z) in
      subst (λ (s : List ℕ). AddPost a m room s (get_or left 0 0) r n) (take_all (length bytes - 0) bytes (omega arith))
      (one_call (subst (λ (c : List Call). Steps a m c r n) (one_added room bytes left folded.cells) folded.steps))

  pub one_refused : (answer ≡ 0 → ⊥) → AddPost a m room bytes answer r n
  one_refused z =
      let unfit = was_unfit post z in
      let same = post.refused unfit in
      rw (asked post false unfit, same.0, same.1) (refused_post a m room bytes 1 (add_unfit a m room bytes unfit))

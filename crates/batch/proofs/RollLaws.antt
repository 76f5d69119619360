-- Rolling up a batch: the calls so far are a run over the states so far, and what is left of the chain completes them. One law for the start, one for a turn, and
-- one for each way that the loop ends.
use Prim.Native.Nat.{ℕ, suc, ◌+◌, ◌<◌, ◌≤◌}
use mathlib.Core.Path.{◌≡◌, refl, sym, ap, ap₂, ◌∙◌, subst}
use mathlib.Core.List.{List, [], ◌∷◌, ◌++◌, append_assoc, map, map-append}
use mathlib.Core.Bool.{Bool, true, false, cond, true≢false}
use native.Mathlib.Omega.{arith}
use lib.ListN.{length, take, drop, set, length-set, length-append, length-map}
use lib.Seq.{take-suc-set, take_all, take_at, length-take-le}
use borrow.Author.Tests.{le-leb, lt-leb}
use Rattle.std.specs.Prelude.{⊤, Result, Ok, Err}
use Rattle.rollup.specs.declared.accumulator.Accumulator.{Accumulator}
use Rattle.rollup.specs.Accumulator.{Mem, fresh}
use Rattle.rollup.specs.Adding.{AddPost}
use Rattle.rollup.specs.Taking.{Free}
use Rattle.rollup.specs.Calls.{Call, added, begun, adding, Run, Unmoved}
use Rattle.batch.specs.declared.chain.ChainError.{ChainError}
use Rattle.batch.specs.declared.records.Ending.{Ending}
use Rattle.batch.specs.declared.records.Ending.TheVariants.{Refused, Full}
use Rattle.batch.specs.Chain.{state_at, Chain, ends, onto, chain_of, states_of}
use Rattle.batch.specs.Batch.{added_all, refusing, ending_for, states_for, RolledPost}
use Rattle.batch.proofs.ChainLaws.{chain_short, Walk, walk_start, walk_all, walk_ending, walk_turn, untouched_next}

-- ---- no chain is too long for 65,536 cells

-- Whether an ending is that there were too few cells.
is_full : Result ⊤ Ending → Bool
is_full (Ok x) = false
is_full (Err (Refused e)) = false
is_full (Err Full) = true

pub never_full : (b : List ℕ) (cells : ℕ) → 65536 ≤ cells → ending_for (chain_of b) cells ≡ Err Full → ⊥
unfolding is_full
never_full b cells h e =
    true≢false
    (sym (ap is_full e)
    ∙ ap (λ (t : Bool). is_full (cond t (refusing (chain_of b).ending) (Err Full))) (le-leb (length (chain_of b).indices) cells (omega (arith, chain_short b)))
    ∙ refused_not (chain_of b).ending)
  where
    refused_not : (r : Result ⊤ ChainError) → is_full (refusing r) ≡ false
    refused_not (Ok x) = refl
    refused_not (Err e) = refl

-- ---- the calls

pub added_last : (room : ℕ) (states : List (List ℕ)) (answers : List ℕ) (s : List ℕ) (n : ℕ) (calls : List Call) → length states ≡ length answers
    → added_all room (states ++ s ∷ []) (answers ++ n ∷ []) calls ≡ added room s n ∷ added_all room states answers calls
unfolding added_all
added_last room [] [] s n calls e = refl
added_last room [] (m ∷ answers) s n calls e = absurd (let z : ⊥ = omega arith in z)
added_last room (t ∷ states) [] s n calls e = absurd (let z : ⊥ = omega arith in z)
added_last room (t ∷ states) (m ∷ answers) s n calls e =
    added_last room states answers s n (added room t m ∷ calls) (let z : length states ≡ length answers = omega arith in z)

-- Behind others they are the same calls.
pub added_after : (room : ℕ) (states : List (List ℕ)) (answers : List ℕ) (calls : List Call)
    → added_all room states answers calls ≡ added_all room states answers [] ++ calls
unfolding added_all
added_after room [] answers calls = refl
added_after room (s ∷ states) [] calls = refl
added_after room (s ∷ states) (n ∷ answers) calls =
    added_after room states answers (added room s n ∷ calls)
    ∙ sym (append_assoc (added_all room states answers []) (added room s n ∷ []) calls)
    ∙ ap (λ (l : List Call). l ++ calls) (sym (added_after room states answers (added room s n ∷ [])))

-- None of them moves the roll-up.
pub added_unmoved : (room : ℕ) (states : List (List ℕ)) (answers : List ℕ) (calls : List Call) → Unmoved calls → Unmoved (added_all room states answers calls)
unfolding added_all Unmoved
added_unmoved room [] answers calls u = u
added_unmoved room (s ∷ states) [] calls u = u
added_unmoved room (s ∷ states) (n ∷ answers) calls u = added_unmoved room states answers (added room s n ∷ calls) u

-- ---- the loop

-- Where it is: k records are done, and with what is left they are the chain's.
pub record Going (batch : List ℕ) (first : Mem) (room : ℕ) (rest : Chain) (k : ℕ) (a : Accumulator) (m : Mem) (old answers : List ℕ) : Type 0 where
  pub done : List ℕ
  pub walk : Walk batch done rest
  pub count : length done ≡ k
  pub few : k ≤ length old
  pub long : length answers ≡ length old
  pub untouched : drop k answers ≡ drop k old
  pub run : Run first (added_all room (map (state_at batch) done) (take k answers) []) a m
  pub free : Free first m

pub same_cells : (m : Mem) → Free m m
same_cells m = record { registers = refl; sparse = refl; pending = refl }

pub going_start : {batch : List ℕ} {rest : Chain} {k : ℕ} {a : Accumulator} (m : Mem) (room : ℕ) (old : List ℕ) → a ≡ fresh → k ≡ 0 → chain_of batch ≡ rest
    → Going batch m room rest k a m old old
unfolding added_all
going_start m room old f none e =
    record {
      done = [];
      walk = walk_start e;
      count = sym none;
      few = omega arith;
      long = refl;
      untouched = refl;
      run = subst (λ (h : Accumulator). Run m [] h m) (sym f) begun;
      free = same_cells m;
    }

module _ {batch : List ℕ} {first : Mem} {room : ℕ} {rest : Chain} {k : ℕ} {a : Accumulator} {m : Mem} {old answers : List ℕ}
    (g : Going batch first room rest k a m old answers) where
  -- The records that are done are those that have a cell.
  stopped : (r : Result ⊤ Ending) → states_for batch (length old) ≡ map (state_at batch) g.done → r ≡ ending_for (chain_of batch) (length old)
      → RolledPost batch first room (record { head = a; records = k; ending = r }) m old answers
  stopped r front ending =
      record {
        records = sym (ap length front ∙ length-map g.done (state_at batch) ∙ g.count);
        ending = ending;
        run = subst (λ (l : List (List ℕ)). Run first (added_all room l (take k answers) []) a m) (sym front) g.run;
        untouched = g.untouched;
        cells = g.long;
        free = g.free;
      }

  pub stop_ended : (r : Result ⊤ ChainError) → rest ≡ ends r → RolledPost batch first room (record { head = a; records = k; ending = refusing r }) m old answers
  stop_ended r e =
      let all = walk_all g.walk e in
      let some : length (chain_of batch).indices ≤ length old = omega (arith, ap length all, g.count, g.few) in
      stopped (refusing r)
      (take_all (length old) (states_of batch) (omega (arith, length-map (chain_of batch).indices (state_at batch))) ∙ ap (map (state_at batch)) all)
      (sym
      (ap (λ (t : Bool). cond t (refusing (chain_of batch).ending) (Err Full)) (le-leb (length (chain_of batch).indices) (length old) some)
      ∙ ap refusing (walk_ending g.walk e)))

  module _ {i : ℕ} {next : Chain} (more : rest ≡ onto i next) where
    all_of : (chain_of batch).indices ≡ g.done ++ i ∷ next.indices
    all_of = g.walk.indices ∙ ap (λ (c : Chain). g.done ++ c.indices) more

    pub stop_full : length old ≤ k → RolledPost batch first room (record { head = a; records = k; ending = Err Full }) m old answers
    stop_full e =
        let rest = i ∷ next.indices in
        let many : length old < length (chain_of batch).indices = omega (arith, ap length all_of, length-append g.done rest, g.count) in
        stopped (Err Full)
        (ap (take (length old)) (ap (map (state_at batch)) all_of ∙ map-append (state_at batch) g.done rest)
        ∙ take_at (map (state_at batch) g.done) (map (state_at batch) rest) (length old) (omega (arith, length-map g.done (state_at batch), g.count, g.few)))
        (sym (ap (λ (t : Bool). cond t (refusing (chain_of batch).ending) (Err Full)) (lt-leb (length (chain_of batch).indices) (length old) many)))

    pub going_turn : {s : List ℕ} {answer : ℕ} {h : Accumulator} {n : Mem} → s ≡ state_at batch i → k < length old → AddPost a m room s answer h n
        → Going batch first room next (k + 1) h n old (set answers k answer)
    going_turn {s} {answer} {h} {n} f room_left post =
        let put : take (k + 1) (set answers k answer) ≡ take k answers ++ answer ∷ [] =
        ap (λ (j : ℕ). take j (set answers k answer)) (let z : k + 1 ≡ suc k = omega arith in z) ∙ take-suc-set answers k answer (omega (arith, g.long)) in
        let done = map (state_at batch) g.done in
        let calls : added_all room (map (state_at batch) (g.done ++ i ∷ [])) (take (k + 1) (set answers k answer)) [] ≡ added room s answer ∷ added_all room done (take k answers) [] =
        ap₂ (λ (states : List (List ℕ)) (l : List ℕ). added_all room states l []) (map-append (state_at batch) g.done (i ∷ [])) put
        ∙ added_last room done (take k answers) (state_at batch i) answer [] (length-map g.done (state_at batch) ∙ g.count ∙ sym (length-take-le k answers (omega (arith, g.long))))
        ∙ ap (λ (l : List ℕ). added room l answer ∷ added_all room done (take k answers) []) (sym f) in
        record {
          done = g.done ++ i ∷ [];
          walk = walk_turn g.walk more;
          count = length-append g.done (i ∷ []) ∙ ap (λ (x : ℕ). x + 1) g.count;
          few = omega arith;
          long = length-set answers k answer ∙ g.long;
          untouched = untouched_next answers old k answer g.untouched;
          run = subst (λ (c : List Call). Run first c h n) (sym calls) (adding room s answer h n g.run post);
          free =
              record {
                registers = post.free.registers ∙ g.free.registers;
                sparse = post.free.sparse ∙ g.free.sparse;
                pending = post.free.pending ∙ g.free.pending;
              };
        }

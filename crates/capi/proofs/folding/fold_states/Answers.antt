-- A turn adds the state up to the next end, which is in the bytes.
use Rattle.std.proofs.Common.{◌≡◌, ◌∙◌, length, ap, subst, sym, arith, true, ℕ}
use lib.ListN.{get_or}
use Rattle.wire.proofs.BoolLaws.{never}
use Rattle.rollup.specs.Adding.{AddPost}
use Rattle.rollup.specs.Lent.{mem_of}
use Rattle.rollup.specs.declared.adding.Fitted.{Fitted}
use Rattle.rollup.proofs.LentLaws.{lent_same, lent_after}
use Rattle.capi.specs.Folds.{between, FoldedPre, FoldedPost}
use Rattle.capi.proofs.FoldLaws.{fold_start, state_in, fold_turn, fold_end}
use Rattle.capi.proofs.folding.fold_states.Goals as goal

pub loop-i-init : goal.loop-i-init
loop-i-init c =
    let m = c.args.memory.now in
    let room = length m.scratch.now in
    let begins = c.from-fitted.ensures in
    record {
      folding =
          fold_start (mem_of m) room
          (subst (λ (f : Fitted). FoldedPre f.head (mem_of m) c.args.bytes.now c.args.ends.now c.args.answers.now) (sym begins) c.requires);
      same = lent_same m;
      known = λ (e : c.from-fitted.result.distinct ≡ true). never (sym (ap (λ (f : Fitted). f.distinct) begins) ∙ e);
    }

pub slice_bounds-add-count : goal.slice_bounds-add-count
slice_bounds-add-count c = (state_in c.loop-i.invariant.folding c.loop-i-test.true).0

pub slice_bounds-add-start : goal.slice_bounds-add-start
slice_bounds-add-start c = (state_in c.loop-i.invariant.folding c.loop-i-test.true).0

pub slice_bounds-add-end : goal.slice_bounds-add-end
slice_bounds-add-end c = let s = state_in c.loop-i.invariant.folding c.loop-i-test.true in omega (arith, s.0, s.1)

pub loop-i-preserved : goal.loop-i-preserved
loop-i-preserved c =
    let l = c.loop-i in
    let m = mem_of l.memory in
    let n = mem_of c.add.new.memory in
    let h = c.add.new.self.head in
    let state = between c.args.bytes.now l.start (get_or c.args.ends.now l.i 0) in
    let post =
    subst (λ (k : ℕ). AddPost l.fitted.head m k state c.answer_of.result h n) l.invariant.same.scratch_length
    (subst (λ (k : ℕ). AddPost l.fitted.head m (length l.memory.scratch.now) state k h n) (sym c.answer_of.ensures) c.add.ensures.post.added) in
    record {
      folding = fold_turn l.invariant.folding c.loop-i-test.true post;
      same = lent_after l.invariant.same c.add.ensures.same;
      known = c.add.ensures.post.sound.known;
    }

pub returns-clause-folded : goal.returns-clause-folded
returns-clause-folded c =
    let l = c.loop-i in
    let o = c.args in
    let m = o.memory.now in
    subst (λ (f : Fitted). FoldedPost f.head (mem_of m) (length m.scratch.now) o.bytes.now o.ends.now o.answers.now l.fitted.head (mem_of l.memory) l.answers) c.from-fitted.ensures
    (fold_end l.invariant.folding c.loop-i-test.false)

-- Each way that the loop ends, and a turn, by what `next` gave.
use Rattle.std.proofs.Common.{Some, Err, subst, sym, ◌∙◌, length, ap, List, ℕ, arith, refl, rules, ◌≡◌, true}
use Rattle.wire.proofs.BoolLaws.{never}
use Rattle.rollup.proofs.ViewLaws.{run_fits}
use Rattle.rollup.proofs.LentLaws.{lent_same, lent_after}
use Rattle.rollup.specs.Lent.{mem_of}
use Rattle.rollup.specs.Adding.{AddPost}
use Rattle.batch.specs.Chain.{state_at}
use Rattle.batch.specs.Records.{left, GivesRecord}
use Rattle.batch.proofs.RollLaws.{going_start, stop_ended, going_turn}
use Rattle.batch.proofs.records.add_records.Goals as goal

pub returns-in_err-record-items-clause-rolled : goal.returns-in_err-record-items-clause-rolled
returns-in_err-record-items-clause-rolled c =
    let m = c.args.memory.now in
    let none = stop_ended (going_start (mem_of m) (length m.scratch.now) c.args.answers.now c.requires.0 c.requires.2 c.in_err-record-items.ensures) (Err c.in_err-record-items.field-0.0) refl in
    search rules

pub loop-record-init : goal.loop-record-init
loop-record-init c =
    let m = c.args.memory.now in
    let begins = c.in_ok-record-items.ensures in
    let same = c.into_iter-record-iterator.ensures.into_iter_gives in
    record {
      going = going_start (mem_of m) (length m.scratch.now) c.args.answers.now c.requires.0 c.requires.2 (begins.0 ∙ ap left (sym same));
      batch = ap (λ s. s.batch.now) same ∙ begins.1;
      same = lent_same m;
      known = λ (e : c.args.fitted.now.distinct ≡ true). never (sym c.requires.1 ∙ e);
    }

pub add-requires : goal.add-requires
add-requires c = record { fit = run_fits c.loop-record.invariant.going.run; known = c.loop-record.invariant.known }

pub loop-record-preserved : goal.loop-record-preserved
loop-record-preserved c =
    let l = c.loop-record in
    let gives = subst (λ r. GivesRecord l.record-iterator (Some r) c.next.new.self) c.in_ok-record.was c.in-Some.ensures.steps in
    let state = c.in_ok-record.record.state.now in
    let n = mem_of c.add.new.memory in
    let h = c.add.new.self.head in
    let post =
    subst (λ (k : ℕ). AddPost l.fitted.head (mem_of l.memory) k state c.answer_of.result h n) l.invariant.same.scratch_length
    (subst (λ (k : ℕ). AddPost l.fitted.head (mem_of l.memory) (length l.memory.scratch.now) state k h n) (sym c.answer_of.ensures) c.add.ensures.post.added) in
    record {
      going =
          going_turn l.invariant.going gives.0 (gives.1 ∙ ap (λ (b : List ℕ). state_at b c.in_ok-record.record.index) l.invariant.batch)
          (omega (arith, l.invariant.going.few, c.if-records-answers.false, l.auto.answers)) post;
      batch = gives.2 ∙ l.invariant.batch;
      same = lent_after l.invariant.same c.add.ensures.same;
      known = c.add.ensures.post.sound.known;
    }

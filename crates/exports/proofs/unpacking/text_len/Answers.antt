-- A turn measures a line, by what `next` gave.
use Rattle.std.proofs.Common.{◌≡◌, Some, subst, sym, ap, ◌∙◌, rules, arith}
use Rattle.batch.specs.Chain.{state_at, chain_of}
use Rattle.batch.specs.Records.{left, GivesRecord}
use Rattle.exports.proofs.UnpackLaws.{Measuring, measuring_start, measuring_few, measuring_short, measuring_turn}
use Rattle.exports.proofs.unpacking.text_len.Goals as goal

pub loop-record-init : goal.loop-record-init
loop-record-init c =
    let it = c.into_iter-record-iterator.result in
    let begins : chain_of c.args.batch.now ≡ left it = search rules in
    (subst (λ k. Measuring c.args.batch.now (left it) k 0) (sym c.requires) (measuring_start begins), search rules)

pub overflow_add-n-in-loop-record : goal.overflow_add-n-in-loop-record
overflow_add-n-in-loop-record c =
    let l = c.loop-record in
    let gives = subst (λ r. GivesRecord l.record-iterator (Some r) c.next.new.self) c.in_ok-n.was c.in-Some.ensures.steps in
    omega (arith, measuring_short l.invariant.0 c.in_ok-n.field-0.state.now gives.0 (gives.1 ∙ ap (λ b. state_at b c.in_ok-n.field-0.index) l.invariant.1))

pub overflow_add-records : goal.overflow_add-records
overflow_add-records c =
    let l = c.loop-record in
    let gives = subst (λ r. GivesRecord l.record-iterator (Some r) c.next.new.self) c.in_ok-n.was c.in-Some.ensures.steps in
    omega (arith, measuring_few l.invariant.0 gives.0)

pub loop-record-preserved : goal.loop-record-preserved
loop-record-preserved c =
    let l = c.loop-record in
    let gives = subst (λ r. GivesRecord l.record-iterator (Some r) c.next.new.self) c.in_ok-n.was c.in-Some.ensures.steps in
    (measuring_turn l.invariant.0 c.in_ok-n.field-0.state.now gives.0 (gives.1 ∙ ap (λ b. state_at b c.in_ok-n.field-0.index) l.invariant.1), gives.2 ∙ l.invariant.1)

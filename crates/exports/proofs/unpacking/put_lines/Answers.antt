-- A turn puts a line, by what `next` gave.
use Rattle.std.proofs.Common.{◌≡◌, Some, subst, ap, ◌∙◌, rules}
use Rattle.batch.specs.Chain.{state_at, chain_of}
use Rattle.batch.specs.Records.{left, GivesRecord}
use Rattle.exports.proofs.UnpackLaws.{lining_start, lining_room, lining_turn}
use Rattle.exports.proofs.unpacking.put_lines.Goals as goal

pub loop-record-init : goal.loop-record-init
loop-record-init c =
    let begins : chain_of c.args.batch.now ≡ left c.into_iter-record-iterator.result = search rules in
    (lining_start c.args.text.now begins, search rules)

pub put_line-at-requires : goal.put_line-at-requires
put_line-at-requires c =
    let l = c.loop-record in
    let gives = subst (λ r. GivesRecord l.record-iterator (Some r) c.next.new.self) c.unwrap.ensures c.in-Some.ensures.steps in
    lining_room l.invariant.0 c.unwrap.result.state.now gives.0 (gives.1 ∙ ap (λ b. state_at b c.unwrap.result.index) l.invariant.1) c.requires.1

pub loop-record-preserved : goal.loop-record-preserved
loop-record-preserved c =
    let l = c.loop-record in
    let gives = subst (λ r. GivesRecord l.record-iterator (Some r) c.next.new.self) c.unwrap.ensures c.in-Some.ensures.steps in
    (lining_turn l.invariant.0 c.unwrap.result.state.now gives.0 (gives.1 ∙ ap (λ b. state_at b c.unwrap.result.index) l.invariant.1) c.put_line-at.ensures, gives.2 ∙ l.invariant.1)

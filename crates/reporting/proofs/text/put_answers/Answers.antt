use Prim.Native.Nat.{◌+◌}
use mathlib.Core.Path.{◌∙◌}
use native.Mathlib.Omega.{arith}
use lib.ListN.{get_or}
use Rattle.reporting.proofs.TextLaws.{going_put, going_end, lines_more, lines_end, line_length}
use Rattle.reporting.proofs.text.put_answers.Goals as goal

pub loop-i-preserved : goal.loop-i-preserved
loop-i-preserved c = let a = c.args.answers.now in
    let l = c.loop-i in
    (going_put (lines_more a l.i c.loop-i-test.true) c.put_answer-at.ensures.put l.invariant.0, omega (arith, c.put_answer-at.ensures.put.next, line_length (1 + l.i) (get_or a l.i 0) (omega arith) (omega (arith, c.type_inv.answers l.i)), l.invariant.1), c.put_answer-at.auto.text ∙ l.invariant.2)

pub returns : goal.returns
returns c = let l = c.loop-i in (going_end (lines_end c.args.answers.now l.i (omega arith)) l.invariant.0, omega arith)

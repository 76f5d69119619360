use Rattle.std.proofs.Common.{sym, ◌∙◌}
use Rattle.lists.proofs.CheckingLaws.{neighbours, rising_turn, rising_end}
use Rattle.lists.proofs.checking.is_ascending.Goals as goal

pub loop-pair-preserved : goal.loop-pair-preserved
loop-pair-preserved c =
    let i = c.loop-pair.invariant in
    let s = rw c.in-Some.is at c.next.ensures.steps in
    (s.0 ∙ i.0, i.1 ∙ rising_turn c.loop-pair.all (neighbours _ _ _ _ i.0 s.1.0 s.1.1 s.1.2))

pub returns : goal.returns
returns c =
    let i = c.loop-pair.invariant in
    let s = rw c.in-None.is at c.next.ensures.steps in
    sym (i.1 ∙ rising_end c.loop-pair.all _ _ i.0 s.1.0)

-- `replay` ends: each roll-up leaves less of the text.
use lib.ListN.{length}
use Rattle.rollup_cases.proofs.replay.Given as goal

abbrev pub invariant-loop-rest : goal.invariant-loop-rest
invariant-loop-rest g l = Unit {0}

abbrev pub decreases-loop-rest : goal.decreases-loop-rest
decreases-loop-rest g l = length l.rest

-- Each turn takes seven bits off and counts a byte, so the count and the bytes of what is left make up the whole (`Counted`).
use Rattle.wire.proofs.VarintLaws.{Counted}
use Rattle.wire.proofs.varint.varint_len_64.Given as goal

abbrev pub invariant-loop-rest : goal.invariant-loop-rest
invariant-loop-rest l = Counted l.v l.n l.rest

abbrev pub decreases-loop-rest : goal.decreases-loop-rest
decreases-loop-rest l = l.rest

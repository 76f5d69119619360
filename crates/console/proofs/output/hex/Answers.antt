use native.Mathlib.Omega.{arith}
use Rattle.console.proofs.OutputLaws.{spelling_more, spelling_end}
use Rattle.console.proofs.output.hex.Goals as goal

pub loop-i-preserved : goal.loop-i-preserved
loop-i-preserved c = let l = c.loop-i in
    spelling_more _ _ l.out l.i c.glyph.result c.glyph-in-loop-i.result c.loop-i-test.true c.requires c.glyph.ensures c.glyph-in-loop-i.ensures l.invariant

pub returns : goal.returns
returns c = let l = c.loop-i in spelling_end _ _ l.out l.i (omega arith) c.requires l.invariant

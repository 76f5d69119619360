-- `hex` meets its contract: the text of the first bytes stands at the front (`Spelling`).
use Rattle.console.proofs.OutputLaws.{Spelling}
use Rattle.console.proofs.output.hex.Given as goal

abbrev pub invariant-loop-i : goal.invariant-loop-i
invariant-loop-i l = Spelling l.bytes l.initial.out l.out l.i

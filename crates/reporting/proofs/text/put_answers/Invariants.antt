-- `put_answers` meets its contract: what is left are the lines of the records from i on, and a line takes 10 bytes at most.
use Prim.Native.Nat.{◌+◌, ◌*◌, ◌≤◌}
use mathlib.Core.Path.{◌≡◌}
use lib.ListN.{length, drop}
use Rattle.reporting.specs.Text.{answer_lines}
use Rattle.reporting.proofs.TextLaws.{Going}
use Rattle.reporting.proofs.text.put_answers.Given as goal

abbrev pub invariant-loop-i : goal.invariant-loop-i
invariant-loop-i l = (Going l.initial.text (answer_lines 1 l.answers) l.text l.at (answer_lines (1 + l.i) (drop l.i l.answers))) × (l.at ≤ 10 * l.i) × (length l.text ≡ length l.initial.text)

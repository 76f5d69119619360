-- `word` meets its contract: what is left of the words is that many words further on.
use Prim.Native.Nat.{◌-◌}
use mathlib.Core.Path.{◌≡◌}
use Rattle.console.specs.Text.{words_from}
use Rattle.console.proofs.text.word.Given as goal

abbrev pub invariant-loop : goal.invariant-loop
invariant-loop l = words_from l.k l.line ≡ words_from (l.k - l.counter) l.rest

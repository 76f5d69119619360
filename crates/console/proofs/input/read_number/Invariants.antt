-- `read_number` meets its contract: the value v of the digits so far, then the rest of the word, reads as the whole word.
use mathlib.Core.Path.{◌≡◌}
use Prim.Native.Nat.{◌^◌, ◌<◌}
use lib.ListN.{drop}
use Rattle.console.specs.Input.{decimal_of, decimal_from}
use Rattle.console.proofs.input.read_number.Given as goal

abbrev pub invariant-loop-b : goal.invariant-loop-b
invariant-loop-b l = (decimal_of l.word ≡ decimal_from l.v (drop l.b-index l.word)) × (l.v < 2 ^ 64)

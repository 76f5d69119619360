-- Each turn puts the lowest seven bits, so what was put and the bytes of what is left make up the whole (`Left`). What is left has
-- a byte or more, so there is room for the next.
use Prim.Native.Nat.{◌+◌, ◌≤◌}
use mathlib.Core.Path.{◌≡◌}
use lib.ListN.{length}
use lib.Seq.{sets}
use Rattle.wire.specs.Varints.{varint_bytes}
use Rattle.wire.proofs.VarintLaws.{Left}
use Rattle.wire.proofs.varint.put_varint.Given as goal

abbrev pub invariant-loop-v : goal.invariant-loop-v
invariant-loop-v l = Left l.out l.at l.v (sets l.initial.out l.start (varint_bytes 10 l.value)) (l.start + length (varint_bytes 10 l.value))
    × (length l.out ≡ length l.initial.out)
    × (l.start + length (varint_bytes 10 l.value) ≤ length l.initial.out)

abbrev pub decreases-loop-v : goal.decreases-loop-v
decreases-loop-v l = l.v

-- `spelled` meets its contract: what `hex` makes is ASCII.
use Prim.Native.Nat.{ℕ}
use Rattle.console.proofs.OutputLaws.{hex_utf8}
use Rattle.console.proofs.show.spelled.Goals as goal

pub unreachable-requires : goal.unreachable-requires
unreachable-requires c = c.in_default.ensures.cases.0 (hex_utf8 c.hex-n.ensures (λ (i : ℕ). (c.type_inv.bytes i).fits))

-- The payloads read so far, each at its weight, and what the rest reads as make up the varint (`Reading`): each turn moves one payload over. As many bytes as
-- were read are there, so that the place of the next is a number.
use Rattle.std.specs.Prelude.{◌+◌, ◌-◌, ◌≤◌, length}
use Rattle.wire.proofs.VarintLaws.{Reading}
use Rattle.wire.proofs.varint.long_varint.Given as goal

abbrev pub invariant-loop-n : goal.invariant-loop-n
invariant-loop-n l =
    record {
      read : Reading l.s l.fn.c.at (l.fn.c.at + l.n) l.n l.value;
      inside : l.n ≤ length l.s - l.fn.c.at;
    }

-- The first bytes of `out`, then what the groups that are left read as with the last, are what the whole word reads as.
use mathlib.Core.Path.{◌≡◌}
use mathlib.Core.List.{◌++◌}
use Prim.Native.Nat.{◌*◌, ◌+◌}
use lib.ListN.{length, take}
use Rattle.std.specs.Slice.Iter.{chunks_exact_rest, chunks_exact_size}
use Rattle.console.specs.Input.{onto}
use Rattle.exports.specs.Base64.{base64_of}
use Rattle.exports.proofs.base64.decode_base64.Given as goal

abbrev pub invariant-loop-i : goal.invariant-loop-i
invariant-loop-i l =
    let i = l.i-iterator.count in
    let rest = chunks_exact_rest l.i-iterator.iter in
    record {
      read : base64_of l.word ≡ onto (take (3 * i) l.out) (base64_of (rest ++ l.last));
      same : length l.out ≡ length l.initial.out;
      left : 4 * i + length rest ≡ length l.front;
      fours : chunks_exact_size l.i-iterator.iter ≡ 4;
    }

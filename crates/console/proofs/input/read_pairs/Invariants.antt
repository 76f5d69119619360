-- `read_pairs` meets its contract: the first bytes of `out`, then what the rest of the word reads as, are what the whole word reads as.
use mathlib.Core.Path.{◌≡◌}
use Prim.Native.Nat.{ℕ, ◌*◌, ◌+◌}
use lib.ListN.{length, take, drop}
use Rattle.std.specs.Prelude.{Option}
use Rattle.std.specs.Slice.Iter.{chunks_exact_rest, chunks_exact_size}
use Rattle.console.specs.Input.{pairs_of, onto, Gives}
use Rattle.console.proofs.input.read_pairs.Given as goal

abbrev pub invariant-loop-i : goal.invariant-loop-i
invariant-loop-i g l =
    let i = l.i-iterator.count in
    let rest = chunks_exact_rest l.i-iterator.iter in
    record {
      read : (value : ℕ → Option ℕ) → Gives (goal.F-post g l.digit) value → pairs_of value l.word ≡ onto (take i l.out) (pairs_of value rest);
      behind : drop i l.out ≡ drop i l.initial.out;
      same : length l.out ≡ length l.initial.out;
      left : 2 * i + length rest ≡ length l.word;
      twos : chunks_exact_size l.i-iterator.iter ≡ 2;
    }

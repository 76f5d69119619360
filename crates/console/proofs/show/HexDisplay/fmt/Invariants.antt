-- `fmt` of `Hex` writes what its clause says: the text of the bytes so far was written, and then comes that of the others.
use mathlib.Core.Path.{◌≡◌}
use mathlib.Core.List.{List, ◌++◌}
use Prim.Native.Nat.{ℕ}
use Rattle.std.specs.Fmt.{HasWritten, IsPlainFormatter}
use Rattle.std.specs.Slice.Iter.{chunks_rest, chunks_size}
use Rattle.console.specs.Output.{hex_text}
use Rattle.console.proofs.show.HexDisplay.fmt.Given as goal

abbrev pub invariant-loop-chunk : goal.invariant-loop-chunk
invariant-loop-chunk g l = record {
  size : chunks_size l.chunk-iterator ≡ 32;
  shown : IsPlainFormatter l.initial.f → (done : List ℕ) × HasWritten g.W.Write.write_str_gives l.initial.f done l.f
      × (done ++ hex_text (chunks_rest l.chunk-iterator) ≡ hex_text l.fn.self.0.now);
}

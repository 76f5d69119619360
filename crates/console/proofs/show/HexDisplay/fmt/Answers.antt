-- `fmt` of `Hex` writes what its clause says: each turn writes the text of a piece.
use mathlib.Core.Path.{sym, ap, ◌∙◌}
use mathlib.Core.List.{List, ◌++◌, append_assoc, append-nil}
use Prim.Native.Nat.{ℕ}
use borrow.Author.Rules.{rules}
use Rattle.std.proofs.Output.{has_written_append, has_written_of_eq}
use Rattle.std.proofs.lemmas.List.{nil_from_length}
use Rattle.std.specs.Slice.Iter.{chunks_rest}
use Rattle.console.specs.Output.{hex_text}
use Rattle.console.proofs.OutputLaws.{hex_append}
use Rattle.console.proofs.show.HexDisplay.fmt.Goals as goal

pub loop-chunk-preserved : goal.loop-chunk-preserved
loop-chunk-preserved g c =
    let chunk = c.in-Some.chunk.now in
    let rest = chunks_rest c.next.new.self in
    let steps = c.in-Some.ensures.steps in
    record {
      size = steps.0 ∙ c.loop-chunk.invariant.size;
      shown = λ plain.
          let so_far = c.loop-chunk.invariant.shown plain in (
            so_far.0 ++ c.spelled.result.now,
            has_written_append _ _ _ _ _ _ so_far.1 (search rules),
            append_assoc so_far.0 c.spelled.result.now (hex_text rest)
                ∙ ap (λ (l : List ℕ). so_far.0 ++ l) (ap (λ (l : List ℕ). l ++ hex_text rest) c.spelled.ensures ∙ sym (ap hex_text steps.1.0 ∙ hex_append chunk rest))
                ∙ so_far.2,
          );
    }

pub returns-clause-writes : goal.returns-clause-writes
unfolding hex_text
returns-clause-writes g c = λ plain _.
    let so_far = c.loop-chunk.invariant.shown plain in
    let none = nil_from_length _ c.in-None.ensures.steps.1.0 in
    has_written_of_eq _ _ _ _ _ (rw (none, append-nil) at so_far.2) so_far.1

-- The index that leads to the record, and then the record.
use mathlib.Core.Path.{ap}
use mathlib.Core.List.{List}
use Prim.Native.Nat.{ℕ}
use native.Mathlib.Omega.{arith}
use lib.ListN.{length}
use lib.Seq.{length-sets}
use Rattle.batch.specs.Packing.{word_bytes}
use Rattle.batch.proofs.PackingLaws.{record_length}
use Rattle.batch.proofs.packing.put_record.Goals as goal

pub put_last-requires : goal.put_last-requires
put_last-requires c = omega (arith, record_length 0 c.args.state.now, c.requires.room_for, ap (λ (l : List ℕ). length l) c.put_word.ensures.output, length-sets c.args.out.now c.args.last (word_bytes c.args.end))

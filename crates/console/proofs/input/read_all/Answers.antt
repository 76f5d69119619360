-- `read_all` meets its contract: n counts the bytes that came, which lie inside the buffer, and each turn that goes on has more of them.
use mathlib.Core.Path.{◌≡◌, ◌∙◌}
use mathlib.Core.List.{List}
use Prim.Native.Nat.{ℕ, ◌+◌, ◌-◌, ◌<◌}
use native.Mathlib.Omega.{arith}
use lib.ListN.{length}
use borrow.Rule.Slice.PartMut.{put_mid, same_len_mid}
use Rattle.console.proofs.InputLaws.{reading_next}
use Rattle.console.proofs.input.read_all.Goals as goal

pub loop-m-smaller : goal.loop-m-smaller
loop-m-smaller g c =
    let n = c.loop-m.n in
    let read-into : List ℕ = put_mid n (n + c.min.result - n) c.loop-m.buf c.read-got.new.buf in
    let same_size : length read-into ≡ length c.args.buf.now = same_len_mid n (n + c.min.result - n) c.loop-m.buf c.read-got.new.buf c.read-got.auto.buf ∙ c.loop-m.invariant.1 in
    let goes_on : (n < c.in-Continue.m) × (c.in-Continue.m < length read-into) = reading_next read-into n _ c.in-Continue.is c.after_read.ensures in
    omega (arith, goes_on.0, goes_on.1, same_size)

pub loop-m-preserved : goal.loop-m-preserved
loop-m-preserved g c =
    let n = c.loop-m.n in
    let read-into : List ℕ = put_mid n (n + c.min.result - n) c.loop-m.buf c.read-got.new.buf in
    let same_size : length read-into ≡ length c.args.buf.now = same_len_mid n (n + c.min.result - n) c.loop-m.buf c.read-got.new.buf c.read-got.auto.buf ∙ c.loop-m.invariant.1 in
    let goes_on : (n < c.in-Continue.m) × (c.in-Continue.m < length read-into) = reading_next read-into n _ c.in-Continue.is c.after_read.ensures in
    (omega (arith, goes_on.1), same_size)

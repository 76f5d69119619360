use Prim.Native.Nat.{◌<◌}
use native.Mathlib.Omega.{arith}
use lib.ListN.{length, length-set}
use borrow.Author.Rules.{rules}
use Rattle.wire.proofs.VarintLaws.{len_pos, left_more, left_last}
use Rattle.wire.proofs.varint.put_varint.Goals as goal

pub bounds-out-at : goal.bounds-out-at
bounds-out-at c =
    let room : c.loop-v.at < length c.loop-v.out = omega (arith, len_pos c.loop-v.invariant.0.m c.loop-v.v) in
    room

pub loop-v-preserved : goal.loop-v-preserved
loop-v-preserved c =
    let l = c.loop-v in
    (left_more c.loop-v-test.true l.invariant.0, simp length-set l.invariant.1, l.invariant.2)

pub bounds-out-at-2 : goal.bounds-out-at-2
bounds-out-at-2 c =
    let room : c.loop-v.at < length c.loop-v.out = omega (arith, len_pos c.loop-v.invariant.0.m c.loop-v.v) in
    room

pub returns : goal.returns
returns c = let d = left_last (search rules) c.loop-v.invariant.0 in record { next = d.0; output = d.1 }

-- The merge is no longer than the two lists together (`back_fits`).
use Rattle.std.proofs.Common.{arith, length-take-le}
use Rattle.rollup.proofs.SparseLaws.{back_fits, back_scratch}
use Rattle.rollup.proofs.sparse_paths.merge_back.Goals as goal

pub append-requires : goal.append-requires
append-requires c =
    let m = c.merge_dedupe_into-r in
    let b = back_fits c.requires m.ensures.merge in
    omega (arith, b, c.requires.room, length-take-le m.result.len m.new.out (back_scratch c.requires m.ensures.merge m.auto.out))

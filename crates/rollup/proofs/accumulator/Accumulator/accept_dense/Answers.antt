-- The roll-up's registers are lowered first; what comes in raises them, and the freed ones stay zero.
use Rattle.rollup.proofs.DenseLaws.{dense_raise, dense_post}
use Rattle.rollup.proofs.accumulator.Accumulator.accept_dense.Goals as goal

pub raise-requires : goal.raise-requires
raise-requires c = dense_raise c.requires c.lower_own-q.ensures

pub returns-clause-shows : goal.returns-clause-shows
returns-clause-shows c =
    let m = c.args.memory.now in
    dense_post c.requires c.lower_own-q.ensures c.raise.ensures c.counted.ensures c.signed_min.ensures m.sparse.now m.pending.now

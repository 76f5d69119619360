-- At registers: what taking in requires has what `accept_dense` does.
use Rattle.rollup.proofs.TakeLaws.{dense_pre}
use Rattle.rollup.proofs.accumulator.Accumulator.take.Goals as goal

pub accept_dense-requires : goal.accept_dense-requires
accept_dense-requires c = dense_pre c.requires c.in-Dense.is

-- One call after the other; between them the memory is as the records left it.
use Rattle.rollup.proofs.ViewLaws.{run_fits}
use Rattle.batch.proofs.closing.roll.Goals as goal

pub not_zero-not_zero-requires : goal.not_zero-not_zero-requires
not_zero-not_zero-requires c = run_fits c.roll_up-rolled.ensures.rolled.run

pub write_fitting-written-requires : goal.write_fitting-written-requires
write_fitting-written-requires c = run_fits c.roll_up-rolled.ensures.rolled.run

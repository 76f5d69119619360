-- They stand behind those that waited (`waiting_shows`).
use Rattle.rollup.proofs.SparseLaws.{waiting_shows}
use Rattle.rollup.proofs.accumulator.Accumulator.wait.Goals as goal

pub returns-clause-shows : goal.returns-clause-shows
returns-clause-shows c =
    let m = c.args.memory.now in
    waiting_shows c.args.self m.registers.now m.sparse.now m.pending.now m.scratch.now c.args.k c.requires.0 c.requires.1 c.append.ensures.front

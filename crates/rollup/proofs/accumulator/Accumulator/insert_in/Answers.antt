-- The values are inserted, and the list is settled (`inserted_shows`).
use Rattle.rollup.proofs.SparseLaws.{inserted_settle, inserted_shows}
use Rattle.rollup.proofs.accumulator.Accumulator.insert_in.Goals as goal

pub settle-requires : goal.settle-requires
settle-requires c = inserted_settle c.requires c.encoding-enc.ensures c.insert_dedupe-r.ensures c.insert_dedupe-r.auto.union

pub returns-clause-shows : goal.returns-clause-shows
returns-clause-shows c = inserted_shows c.requires c.encoding-enc.ensures c.insert_dedupe-r.ensures c.args.memory.now.pending.now c.settle.ensures

-- All values are merged, and the list is settled (`merged_shows`).
use Rattle.rollup.proofs.SparseLaws.{merged_back, merged_settle, merged_shows}
use Rattle.rollup.proofs.accumulator.Accumulator.merge_in.Goals as goal

pub merge_back-r-requires : goal.merge_back-r-requires
merge_back-r-requires c = merged_back c.requires c.encoding-enc.ensures c.join_waiting.ensures c.join_waiting.auto.scratch

pub settle-requires : goal.settle-requires
settle-requires c = merged_settle c.requires c.encoding-enc.ensures c.join_waiting.ensures c.merge_back-r.ensures c.merge_back-r.auto.sparse

pub returns-clause-shows : goal.returns-clause-shows
returns-clause-shows c = merged_shows c.requires c.encoding-enc.ensures c.join_waiting.ensures c.merge_back-r.ensures _ c.settle.ensures

-- Sorting what waits changes nothing of the merge (`sorted_post`).
use Rattle.std.proofs.Common.{arith}
use Rattle.rollup.proofs.SparseLaws.{sorted_merge, sorted_post}
use Rattle.rollup.proofs.writing.flush_pending.Goals as goal

pub merge_dedupe_into-requires : goal.merge_dedupe_into-requires
merge_dedupe_into-requires c = let p = c.requires in
    sorted_merge c.args.enc c.args.waiting.now c.sort_runs.ensures.order p.order p.kept_valid p.waiting_valid (omega (arith, p.room, c.sort_runs.auto.scratch))

pub returns : goal.returns
returns c = record { merge = sorted_post c.args.enc c.args.waiting.now c.sort_runs.ensures.order c.merge_dedupe_into.ensures.merge; ordered = c.sort_runs.ensures.order }

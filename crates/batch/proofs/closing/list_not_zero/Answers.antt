-- Both lists are set in the lent bytes, and the registers there are counted (`list_counted`).
use Prim.Native.Nat.{ℕ, ◌≤◌}
use mathlib.Core.Path.{◌≡◌}
use mathlib.Core.Bool.{true}
use mathlib.Core.List.{◌++◌}
use lib.ListN.{length, take}
use Rattle.lists.specs.Lists.{all_valid}
use Rattle.lists.specs.Registers.{register_bytes, not_zero_count}
use Rattle.lists.proofs.MergeLaws.{valid_append}
use Rattle.rollup.specs.Calls.{list_registers}
use Rattle.rollup.proofs.SparseLaws.{at_pair, of_pair}
use Rattle.batch.proofs.ClosingLaws.{list_counted}
use Rattle.batch.proofs.closing.list_not_zero.Goals as goal

pub returns : goal.returns
returns c =
    let n = c.encoding-enc.ensures in
    at_pair n (λ (p s : ℕ). c.count_not_zero.result ≡ not_zero_count (list_registers p s (take c.args.a.sparse_len c.args.memory.now.sparse.now ++ take c.args.a.pending_len c.args.memory.now.pending.now))) (list_counted c.encoding-enc.result.normal_precision c.encoding-enc.result.sparse_precision c.encoding-enc.result.pair (take c.args.a.sparse_len c.args.memory.now.sparse.now ++ take c.args.a.pending_len c.args.memory.now.pending.now) c.args.spare.now (of_pair n (λ (p s : ℕ). all_valid p s (take c.args.a.sparse_len c.args.memory.now.sparse.now ++ take c.args.a.pending_len c.args.memory.now.pending.now) ≡ true) (valid_append c.args.a.precision c.args.a.sparse_precision (take c.args.a.sparse_len c.args.memory.now.sparse.now) (take c.args.a.pending_len c.args.memory.now.pending.now) c.requires.kept_valid c.requires.waiting_valid)) (of_pair n (λ (p s : ℕ). register_bytes p ≤ length c.args.spare.now) c.requires.room) _ _ c.set_lists.ensures c.count_not_zero.ensures)

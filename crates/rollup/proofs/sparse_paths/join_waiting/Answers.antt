-- Where nothing waits the values ascend, and sorting leaves them as they are.
use Rattle.std.proofs.Common.{◌≡◌, ◌≤◌, ℕ, true, ◌++◌, length, take, sym, subst, arith, ◌∙◌}
use Rattle.lists.specs.Sorting.{ascends}
use Rattle.lists.proofs.OrderLaws.{sort_of_ascends}
use Rattle.rollup.proofs.SparseLaws.{appended}
use Rattle.rollup.proofs.sparse_paths.join_waiting.Goals as goal

pub returns-else-w-ne0 : goal.returns-else-w-ne0
returns-else-w-ne0 c =
    let vs = take c.args.k c.args.scratch.now in
    appended c.args.w c.args.scratch.now c.append.new.list (let h : c.args.k ≤ length c.args.scratch.now = omega arith in h) c.append.ensures.front
    ∙ sym (sort_of_ascends _ (subst (λ (n : ℕ). ascends (take n c.args.pending.now ++ vs) ≡ true) (sym c.if-w-ne0.false) c.requires.2))

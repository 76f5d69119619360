-- What the counts ask of the memory, by the form.
use Prim.Native.Nat.{ℕ, ◌≤◌}
use mathlib.Core.Path.{subst}
use lib.ListN.{length}
use Rattle.rollup.specs.Lent.{mem_of}
use Rattle.rollup.proofs.FitLaws.{fit_sparse, fit_dense}
use Rattle.batch.proofs.ClosingLaws.{list_pre}
use Rattle.batch.proofs.closing.not_zero.Goals as goal

pub register_bytes-requires : goal.register_bytes-requires
register_bytes-requires c = (fit_sparse c.args.a (mem_of c.args.memory.now) c.requires c.in-Sparse.is).pair.high

pub list_not_zero-requires : goal.list_not_zero-requires
list_not_zero-requires c = list_pre c.args.a (mem_of c.args.memory.now) c.args.spare.now c.requires c.in-Sparse.is (subst (λ (k : ℕ). k ≤ length c.args.spare.now) c.register_bytes.ensures.0 c.if-spare-register_bytes.false)

pub count_not_zero-requires : goal.count_not_zero-requires
count_not_zero-requires c =
    let f = fit_dense c.args.a (mem_of c.args.memory.now) c.requires c.in-Dense.is in
    record { high = f.high; room = f.room }

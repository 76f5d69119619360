-- What stands behind the values is as it was: they are put into a part of the list.
use mathlib.Core.Path.{ap}
use Prim.Native.Nat.{◌+◌, ◌-◌}
use native.Mathlib.Omega.{arith}
use lib.ListN.{length}
use Rattle.std.proofs.lemmas.Slice.{drop-put_mid}
use Rattle.rollup.proofs.memory.append.Goals as goal

pub returns-clause-rest : goal.returns-clause-rest
returns-clause-rest c =
    drop-put_mid c.args.n (c.args.n + length c.args.values.now - c.args.n) c.args.list.now c.copy_from_slice.new.self (c.args.n + length c.args.values.now) (omega arith)
    (omega (arith, c.requires)) (omega (arith, ap length c.copy_from_slice.ensures.after))

-- Question 1, and then the others.
use Rattle.std.proofs.Common.{ℕ, length}
use Rattle.wire.proofs.BoolLaws.{said_no}
use Rattle.rollup.specs.Accumulator.{Mem, mem}
use Rattle.rollup.proofs.WriteLaws.{write_unfit, refused_by}
use Rattle.std.proofs.lemmas.Bool.{not_from_false}
use Rattle.rollup.proofs.accumulator.Accumulator.write.Goals as goal

pub returns-then-not-fits : goal.returns-then-not-fits
returns-then-not-fits c =
    let m : Mem = mem c.args.registers.now c.args.sparse.now c.args.pending.now in
    let room : ℕ = length c.args.scratch.now in
    refused_by c.args.self c.args.registers.now c.args.sparse.now c.args.pending.now room c.args.out.now 1
    (write_unfit c.args.self m room (length c.args.out.now) (said_no c.fits.ensures (not_from_false _ c.if-not-fits.true)))

-- Question 1, and then the others.
use Rattle.std.proofs.Common.{length}
use Rattle.std.proofs.lemmas.Bool.{not_from_false}
use Rattle.wire.proofs.BoolLaws.{said_no}
use Rattle.rollup.specs.Lent.{mem_of}
use Rattle.rollup.proofs.AddLaws.{add_unfit, refused_post}
use Rattle.rollup.proofs.accumulator.Accumulator.add.Goals as goal

pub returns-then-not-fits_in-clause-post : goal.returns-then-not-fits_in-clause-post
returns-then-not-fits_in-clause-post c =
    let a = c.args.self.now in
    let m = mem_of c.args.memory.now in
    let room = length c.args.memory.now.scratch.now in
    refused_post a m room c.args.bytes.now 1 (add_unfit a m room c.args.bytes.now (said_no c.fits_in.ensures (not_from_false _ c.if-not-fits_in.true)))

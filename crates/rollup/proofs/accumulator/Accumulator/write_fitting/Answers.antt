-- Each form has its part: 21, the list, the registers.
use Rattle.std.proofs.Common.{ℕ, length}
use Rattle.rollup.specs.Accumulator.{Mem, mem}
use Rattle.rollup.proofs.FitLaws.{fit_dense}
use Rattle.rollup.proofs.WriteLaws.{write_fresh, refused_by, only_lists, dense_post}
use Rattle.rollup.proofs.accumulator.Accumulator.write_fitting.Goals as goal

pub write_list-requires : goal.write_list-requires
write_list-requires c = (c.in-Sparse.is, only_lists c.args.self c.args.registers.now c.args.sparse.now c.args.pending.now c.in-Sparse.is c.requires)

pub write_dense-requires : goal.write_dense-requires
write_dense-requires c =
    let m : Mem = mem c.args.registers.now c.args.sparse.now c.args.pending.now in
    (fit_dense c.args.self m c.requires c.in-Dense.is).high

pub returns-in-Unstarted : goal.returns-in-Unstarted
returns-in-Unstarted c =
    let m : Mem = mem c.args.registers.now c.args.sparse.now c.args.pending.now in
    let room : ℕ = length c.args.scratch.now in
    refused_by c.args.self c.args.registers.now c.args.sparse.now c.args.pending.now room c.args.out.now 21
    (write_fresh c.args.self m room (length c.args.out.now) c.requires c.in-Unstarted.is)

pub returns-in-Dense : goal.returns-in-Dense
returns-in-Dense c =
    let room : ℕ = length c.args.scratch.now in
    dense_post c.args.self c.args.registers.now c.args.sparse.now c.args.pending.now room c.args.out.now c.requires c.in-Dense.is _ _ _ c.write_dense.ensures

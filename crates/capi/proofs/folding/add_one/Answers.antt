-- A fold of one state, whose end is that of the bytes: what it answers as a whole is question 1 (`one_refused`), and else the state's answer counts (`one_state`).
use Rattle.std.proofs.Common.{length, refl, sym, subst, ℕ}
use Rattle.rollup.specs.Adding.{AddPost}
use Rattle.rollup.specs.Accumulator.{mem}
use Rattle.rollup.proofs.RefusalLaws.{number_some}
use Rattle.capi.proofs.FoldLaws.{one_fits, one_state, one_refused}
use Rattle.capi.proofs.folding.add_one.Goals as goal

pub fold-requires : goal.fold-requires
fold-requires c = one_fits c.args.state.now 0

pub returns-in-Ok : goal.returns-in-Ok
returns-in-Ok c = one_state c.in-Ok.ensures refl

pub returns-in-Err : goal.returns-in-Err
returns-in-Err c =
    let o = c.args in
    let m = c.fold.new in
    subst (λ (k : ℕ). AddPost o.head.now (mem o.registers.now o.sparse.now o.pending.now) (length o.scratch.now) o.state.now k m.head (mem m.registers m.sparse m.pending)) (sym c.number.ensures)
    (one_refused c.in-Err.ensures (number_some c.in-Err.e))

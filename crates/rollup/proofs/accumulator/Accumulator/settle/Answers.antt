-- Below the limit nothing but the head changes (`settle_list`); from it on the list is set (`settle_dense`).
use Rattle.std.proofs.Common.{◌≡◌, ℕ, take, length-take-le}
use Rattle.lists.specs.Registers.{with_registers, zeros, raised_by}
use Rattle.rollup.proofs.SparseLaws.{at_pair, settle_list, settle_dense}
use Rattle.rollup.proofs.accumulator.Accumulator.settle.Goals as goal

pub returns-then-r-size_limit : goal.returns-then-r-size_limit
returns-then-r-size_limit c =
    let a = c.args in
    settle_list a.self a.registers.now (take a.r.len a.sparse.now) a.r.bytes c.size_limit.ensures.0 c.if-r-size_limit.true
    (length-take-le a.r.len a.sparse.now c.requires.inside)

pub returns : goal.returns
returns c =
    let a = c.args in
    let l = take a.r.len a.sparse.now in
    settle_dense a.self a.registers.now l a.r.bytes c.size_limit.ensures.0 c.if-r-size_limit.false c.densed.ensures
    (at_pair c.requires.same (λ (p s : ℕ). c.set_list.new.registers ≡ with_registers p (raised_by p s (zeros p) l) a.registers.now) c.set_list.ensures)

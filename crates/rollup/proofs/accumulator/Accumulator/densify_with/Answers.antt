-- Both lists are set, and then the row is taken in (`row_over`).
use Rattle.std.proofs.Common.{◌≡◌, ℕ, ◌++◌, take}
use Rattle.lists.specs.Registers.{with_registers, zeros, raised_by}
use Rattle.lists.proofs.RegisterLaws.{row_holds}
use Rattle.rollup.proofs.SparseLaws.{at_pair, set_room, row_over, densified_shows}
use Rattle.rollup.proofs.accumulator.Accumulator.densify_with.Goals as goal

pub max_into-requires : goal.max_into-requires
max_into-requires c =
    let a = c.args.self in
    let m = c.args.memory.now in
    let l = take a.sparse_len m.sparse.now ++ take a.pending_len m.pending.now in
    let set = at_pair c.encoding.ensures (λ (p s : ℕ). c.set_lists.new.registers ≡ with_registers p (raised_by p s (zeros p) l) m.registers.now) c.set_lists.ensures in
    record {
      into = record { high = c.requires.pair.high; room = set_room a.precision a.sparse_precision m.registers.now c.requires.room l _ set };
      from = record { high = c.requires.pair.high; room = row_holds a.precision c.args.row.now c.requires.size };
    }

pub returns-clause-shows : goal.returns-clause-shows
returns-clause-shows c =
    let a = c.args.self in
    let m = c.args.memory.now in
    let l = take a.sparse_len m.sparse.now ++ take a.pending_len m.pending.now in
    let set = at_pair c.encoding.ensures (λ (p s : ℕ). c.set_lists.new.registers ≡ with_registers p (raised_by p s (zeros p) l) m.registers.now) c.set_lists.ensures in
    densified_shows a m.registers.now m.sparse.now m.pending.now c.args.row.now c.densed.ensures
    (row_over a.precision a.sparse_precision m.registers.now c.requires.room l c.args.row.now _ _ c.requires.size set c.max_into.ensures)

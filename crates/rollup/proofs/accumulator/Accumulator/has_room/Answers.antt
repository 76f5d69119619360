-- Both sums are small (`wanted_small`, `wanted_high`).
use Rattle.std.proofs.Common.{ℕ, ◌+◌, ◌^◌, ◌<◌, length, sym, ap, subst}
use Rattle.rollup.specs.Lent.{mem_of}
use Rattle.rollup.specs.Header.{viewed}
use Rattle.rollup.proofs.JudgeLaws.{wanted_high, wanted_small}
use Rattle.rollup.proofs.accumulator.Accumulator.has_room.Goals as goal

pub wanted_cells-cells-requires : goal.wanted_cells-cells-requires
wanted_cells-cells-requires c =
    subst (λ (n : ℕ). c.args.self.sparse_len + c.args.self.pending_len + n < 2 ^ 64) (sym (ap length c.sparse_data.ensures))
    (wanted_small c.args.self (mem_of c.args.memory.now) (viewed c.args.view) c.requires)

pub wanted_registers-requires : goal.wanted_registers-requires
wanted_registers-requires c = wanted_high c.args.self (mem_of c.args.memory.now) (viewed c.args.view) c.requires

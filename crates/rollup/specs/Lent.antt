-- The memory that a caller lends.
use Rattle.std.specs.Prelude.{◌≡◌, length}
use Rattle.rollup.specs.declared.memory.Memory.{Memory}
use Rattle.rollup.specs.Accumulator.{Mem, mem}

-- What it holds.
abbrev pub mem_of : Memory → Mem
mem_of m = mem m.registers.now m.sparse.now m.pending.now

-- The references stay the caller's, and as long as they were. The check asks each function that is lent a struct with `&mut` to promise it.
pub record SameLent (m n : Memory) : Type 0 where
  pub registers : n.registers.ghost_name ≡ m.registers.ghost_name
  pub sparse : n.sparse.ghost_name ≡ m.sparse.ghost_name
  pub pending : n.pending.ghost_name ≡ m.pending.ghost_name
  pub scratch : n.scratch.ghost_name ≡ m.scratch.ghost_name
  pub registers_length : length n.registers.now ≡ length m.registers.now
  pub sparse_length : length n.sparse.now ≡ length m.sparse.now
  pub pending_length : length n.pending.now ≡ length m.pending.now
  pub scratch_length : length n.scratch.now ≡ length m.scratch.now

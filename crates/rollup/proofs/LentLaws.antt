-- Lent memory that stays the caller's over one call stays so over more.
use Rattle.std.proofs.Common.{refl, ◌∙◌}
use Rattle.rollup.specs.declared.memory.Memory.{Memory}
use Rattle.rollup.specs.Lent.{SameLent}

pub lent_same : (m : Memory) → SameLent m m
lent_same m =
    record {
      registers = refl;
      sparse = refl;
      pending = refl;
      scratch = refl;
      registers_length = refl;
      sparse_length = refl;
      pending_length = refl;
      scratch_length = refl;
    }

pub lent_after : {l m n : Memory} → SameLent l m → SameLent m n → SameLent l n
lent_after a b =
    record {
      registers = b.registers ∙ a.registers;
      sparse = b.sparse ∙ a.sparse;
      pending = b.pending ∙ a.pending;
      scratch = b.scratch ∙ a.scratch;
      registers_length = b.registers_length ∙ a.registers_length;
      sparse_length = b.sparse_length ∙ a.sparse_length;
      pending_length = b.pending_length ∙ a.pending_length;
      scratch_length = b.scratch_length ∙ a.scratch_length;
    }

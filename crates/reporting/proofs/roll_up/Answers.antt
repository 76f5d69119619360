-- `roll_up` meets its contract: it is what `roll` promises of what is lent.
use Prim.Native.Nat.{ℕ}
use Rattle.reporting.proofs.ReportLaws.{rolled_up}
use borrow.Author.Rules.{rules}
use Rattle.reporting.proofs.roll_up.Goals as goal

pub returns : goal.returns
returns c = rolled_up (λ (i : ℕ). (c.type_inv.batch i).fits)
    (record {
      first = _;
      last = _;
      room = _;
      space = _;
      cells = _;
      bytes = _;
      post = c.roll.ensures.reported;
      registers_lent = search rules;
      lists_lent = (search rules, search rules, search rules);
      spare_lent = search rules;
      cells_lent = (search rules, search rules);
      output_lent = (search rules, search rules);
    })

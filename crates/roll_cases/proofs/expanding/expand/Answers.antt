use mathlib.Core.Path.{sym, ◌∙◌, subst}
use Prim.Native.Nat.{ℕ}
use native.Mathlib.Omega.{arith}
use Rattle.std.specs.Prelude.{Option}
use Rattle.console.specs.Input.{PieceOf}
use Rattle.roll_cases.specs.Expanding.{LinePost}
use Rattle.roll_cases.proofs.ExpandingLaws.{line_refused}
use Rattle.roll_cases.proofs.expanding.expand.Goals as goal

pub returns-in_err-n : goal.returns-in_err-n
returns-in_err-n c =
    let l = c.loop-word in
    let rest = l.word-iterator.rest.now in
    let p : PieceOf 32 rest c.in-Some.word.now c.next.new.self.rest.now = subst (λ (b : ℕ). PieceOf b rest c.in-Some.word.now c.next.new.self.rest.now) l.invariant.3 c.in-Some.ensures.steps.1 in
    subst (λ (r : Option ℕ). LinePost c.args.line.now c.args.out.now r c.put_word.new.out) (sym c.from_residual.ensures)
    (λ h w. omega (arith, l.invariant.1, line_refused rest c.in-Some.word.now c.next.new.self.rest.now l.out c.put_word.new.out l.n c.put_word.result p c.put_word.ensures c.in_err-n.was h (sym l.invariant.2 ∙ w)))

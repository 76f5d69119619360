use mathlib.Core.Path.{sym, ap, ◌∙◌}
use Prim.Native.Nat.{ℕ, ◌+◌, ◌^◌}
use native.Mathlib.Omega.{arith}
use lib.ListN.{drop}
use borrow.Author.Tests.{lt-ltb}
use borrow.Author.Rules.{rules}
use Rattle.console.specs.Input.{below64, decimal_from}
use Rattle.console.proofs.InputLaws.{decimal_end, decimal_more, decimal_other, decimal_over}
use Rattle.console.proofs.input.read_number.Goals as goal

pub returns-then-not-is_ascii_digit : goal.returns-then-not-is_ascii_digit
returns-then-not-is_ascii_digit c = let l = c.loop-b in
    sym (ap below64 (l.invariant.0 ∙ decimal_other c.args.word.now l.v l.b-index c.loop-b-test.true (search rules)))

pub returns-in_err-checked_mul : goal.returns-in_err-checked_mul
returns-in_err-checked_mul c = let l = c.loop-b in let large = c.in_err-checked_mul.ensures in
    c.from_residual.ensures ∙ sym (ap below64 l.invariant.0 ∙ decimal_over c.args.word.now l.v l.b-index c.loop-b-test.true (search rules) (omega arith))

pub returns-in_err-v : goal.returns-in_err-v
returns-in_err-v c = let l = c.loop-b in let large = c.in_err-v.ensures in
    c.from_residual-in_err-v.ensures
    ∙ sym (ap below64 l.invariant.0 ∙ decimal_over c.args.word.now l.v l.b-index c.loop-b-test.true (search rules) (omega (arith, c.in_ok-checked_mul.ensures.1, c.from.ensures)))

pub loop-b-preserved : goal.loop-b-preserved
loop-b-preserved c = let l = c.loop-b in let e = c.in_ok-v.ensures in (
  l.invariant.0
      ∙ decimal_more c.args.word.now l.v l.b-index c.loop-b-test.true (search rules)
      ∙ ap (λ (v : ℕ). decimal_from v (drop (l.b-index + 1) c.args.word.now)) (omega (arith, e.1, c.in_ok-checked_mul.ensures.1, c.from.ensures)),
  omega (arith, e.0, e.1),
)

pub returns : goal.returns
returns c = let l = c.loop-b in
    sym (ap below64 (l.invariant.0 ∙ decimal_end c.args.word.now l.v l.b-index (omega arith)) ∙ rw (lt-ltb l.v (2 ^ 64) l.invariant.1))

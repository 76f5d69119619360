use mathlib.Core.Path.{◌≡◌, sym, ap, ◌∙◌, subst}
use Prim.Native.Nat.{ℕ, ◌+◌, ◌-◌}
use native.Mathlib.Omega.{arith}
use lib.ListN.{length, take}
use borrow.Rule.Slice.PartMut.{put_mid, same_len_mid}
use Rattle.std.specs.Prelude.{Option}
use Rattle.console.specs.Input.{hex_of, onto}
use Rattle.roll_cases.specs.Expanding.{times_of, Expands}
use Rattle.roll_cases.proofs.ExpandingLaws.{times_turn, times_refused}
use Rattle.roll_cases.proofs.expanding.put_times.Goals as goal

pub returns-in_err-at : goal.returns-in_err-at
returns-in_err-at c = let l = c.loop in
    subst (λ (r : Option ℕ). Expands (take c.args.start c.args.out.now) (times_of c.args.n (hex_of c.args.piece.now)) c.args.out.now r (put_mid l.at (length l.out - l.at) l.out c.read_bytes.new.out)) (sym c.from_residual.ensures)
    (λ h w. omega (arith, l.invariant.1, times_refused c.args.piece.now l.out c.read_bytes.new.out l.at (c.args.n - l.counter) c.read_bytes.result l.invariant.0 (omega arith) c.read_bytes.auto.out c.read_bytes.ensures.post c.in_err-at.was h (sym l.invariant.2 ∙ w)))

pub loop-preserved : goal.loop-preserved
loop-preserved c = let l = c.loop in
    let w = times_turn c.args.piece.now l.out c.read_bytes.new.out l.at (c.args.n - l.counter) c.read_bytes.result l.invariant.0 (omega arith) c.read_bytes.auto.out c.read_bytes.ensures.post c.in_ok-at.field-0 c.in_ok-at.was in
    let s = same_len_mid l.at (length l.out - l.at) l.out c.read_bytes.new.out c.read_bytes.auto.out in
    let after = put_mid l.at (length l.out - l.at) l.out c.read_bytes.new.out in (
      omega (arith, w.0, s),
      s ∙ l.invariant.1,
      l.invariant.2 ∙ w.1 ∙ ap (λ (k : ℕ). onto (take (l.at + c.in_ok-at.field-0) after) (times_of k (hex_of c.args.piece.now))) (let e : c.args.n - l.counter - 1 ≡ c.args.n - (l.counter + 1) = omega arith in e),
    )

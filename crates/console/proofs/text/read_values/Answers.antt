use mathlib.Core.Path.{sym, subst, ◌∙◌}
use Prim.Native.Nat.{ℕ, ◌<◌}
use native.Mathlib.Omega.{arith}
use lib.ListN.{length, length-set}
use Rattle.std.specs.Prelude.{Option}
use Rattle.console.specs.Input.{PieceOf}
use Rattle.console.specs.Text.{ListedPost, values_in}
use Rattle.console.proofs.InputLaws.{drop_next, refused_free}
use Rattle.console.proofs.TextLaws.{front, values_full, values_other, values_turn, values_end, value_left}
use Rattle.console.proofs.text.read_values.Goals as goal

pub returns-then-out-n : goal.returns-then-out-n
returns-then-out-n c =
    let l = c.loop-piece in
    let rest = l.piece-iterator.rest.now in
    let p : PieceOf 44 rest c.in-Some.piece.now c.next.new.self.rest.now = subst (λ (b : ℕ). PieceOf b rest c.in-Some.piece.now c.next.new.self.rest.now) l.invariant.5 c.in-Some.ensures.steps.1 in
    (values_full l.out c.args.word.now rest _ l.n l.invariant.2 p.more (omega (arith, l.invariant.1)), refused_free c.args.word.now _ _ l.n (omega (arith, l.invariant.3 p.more)) l.invariant.4 l.invariant.1)

pub returns-in_err-out : goal.returns-in_err-out
returns-in_err-out c =
    let l = c.loop-piece in
    let rest = l.piece-iterator.rest.now in
    let p : PieceOf 44 rest c.in-Some.piece.now c.next.new.self.rest.now = subst (λ (b : ℕ). PieceOf b rest c.in-Some.piece.now c.next.new.self.rest.now) l.invariant.5 c.in-Some.ensures.steps.1 in
    subst (λ (r : Option ℕ). ListedPost (values_in (length c.args.out.now) c.args.word.now) c.args.word.now c.args.out.now r l.out) (sym c.from_residual.ensures)
    (values_other l.out c.args.word.now rest _ l.n l.invariant.2 c.in-Some.piece.now c.next.new.self.rest.now p (omega (arith, l.invariant.1)) c.in_err-out.ensures, refused_free c.args.word.now _ _ l.n (omega (arith, l.invariant.3 p.more)) l.invariant.4 l.invariant.1)

pub loop-piece-preserved : goal.loop-piece-preserved
loop-piece-preserved c =
    let l = c.loop-piece in
    let rest = l.piece-iterator.rest.now in
    let next = c.next.new.self.rest.now in
    let v = c.in_ok-out.field-0 in
    let e = c.in_ok-out.ensures in
    let p : PieceOf 44 rest c.in-Some.piece.now next = subst (λ (b : ℕ). PieceOf b rest c.in-Some.piece.now next) l.invariant.5 c.in-Some.ensures.steps.1 in (
      simp length-set (omega (arith, c.if-out-n.false)),
      simp length-set l.invariant.1,
      values_turn l.out c.args.word.now rest _ l.n l.invariant.2 c.in-Some.piece.now next p (omega (arith, l.invariant.1)) (omega arith) v e,
      (λ (h : 0 < length next). omega (arith, l.invariant.3 p.more, value_left rest c.in-Some.piece.now next v p e h)),
      drop_next l.out _ l.n _ l.invariant.4,
      c.in-Some.ensures.steps.0 ∙ l.invariant.5,
    )

pub returns : goal.returns
returns c =
    let l = c.loop-piece in
    (values_end l.out c.args.word.now l.piece-iterator.rest.now _ l.n l.invariant.2 c.in-None.ensures.steps.1.0, (l.invariant.4, l.invariant.1), front l.n l.out (omega arith))

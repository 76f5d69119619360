use mathlib.Core.Path.{◌≡◌, refl, sym, ap, ◌∙◌, subst}
use mathlib.Core.Logic.{inl, inr}
use Prim.Native.Nat.{ℕ, ◌*◌, ◌+◌, ◌/◌}
use native.Mathlib.Omega.{arith}
use lib.ListN.{length, length-set, length-append, set, take, drop, get_or}
use borrow.Author.Rules.{rules}
use Rattle.std.specs.Prelude.{Option, None}
use Rattle.std.specs.Slice.Iter.{chunks_exact_rest}
use Rattle.console.specs.Input.{pairs_of, onto, PairsPost}
use Rattle.console.proofs.InputLaws.{pairs_odd, pair_high, pair_low, pair_next, pairs_done, drop_next, refused_free}
use Rattle.console.proofs.input.read_pairs.Goals as goal
use Rattle.console.proofs.input.read_pairs.Goals.{then-out-n-via-then-out-n, then-out-n-via-else-out-n+then-word-eq1}

pub returns-then-out-n : goal.returns-then-out-n
returns-then-out-n g c = λ value gives. elim c.then-out-n.branch [
  | then-out-n-via-then-out-n w ↦ inr (w.if-out-n.true, refl)
  | then-out-n-via-else-out-n+then-word-eq1 w ↦ inl (pairs_odd value _ w.if-word-eq1.true, refused_free c.args.word.now _ _ 0 (omega arith) refl refl)
]

pub returns-in_err-high : goal.returns-in_err-high
returns-in_err-high g c = λ value gives.
    let l = c.loop-i in
    let s = c.in-Some.ensures.steps.0.1 in
    let none = gives (get_or c.in-Some.pair.now 0 0) None (search rules) c.in_err-high.ensures in
    subst (λ (r : Option ℕ). PairsPost value c.args.word.now c.args.out.now r l.out) (sym c.from_residual.ensures)
    (inl (
      l.invariant.read value gives ∙ pair_high value c.in-Some.pair.now (chunks_exact_rest c.next.new.self.iter) s.0 (s.1 ∙ l.invariant.twos) none (take l.i-iterator.count l.out),
      refused_free c.args.word.now _ _ l.i-iterator.count (omega (arith, l.invariant.left)) l.invariant.behind l.invariant.same,
    ))

pub returns-in_err-low : goal.returns-in_err-low
returns-in_err-low g c = λ value gives.
    let l = c.loop-i in
    let s = c.in-Some.ensures.steps.0.1 in
    let none = gives (get_or c.in-Some.pair.now 1 0) None (search rules) c.in_err-low.ensures in
    subst (λ (r : Option ℕ). PairsPost value c.args.word.now c.args.out.now r l.out) (sym c.from_residual-in_err-low.ensures)
    (inl (
      l.invariant.read value gives ∙ pair_low value c.in-Some.pair.now (chunks_exact_rest c.next.new.self.iter) s.0 (s.1 ∙ l.invariant.twos) none (take l.i-iterator.count l.out),
      refused_free c.args.word.now _ _ l.i-iterator.count (omega (arith, l.invariant.left)) l.invariant.behind l.invariant.same,
    ))

pub loop-i-preserved : goal.loop-i-preserved
loop-i-preserved g c =
    let l = c.loop-i in
    let s = c.in-Some.ensures.steps in
    let i = c.in-Some.i in
    let two = s.0.1.1 ∙ l.invariant.twos in
    let next : i + 1 ≡ c.next.new.self.count = omega (arith, s.1, s.2) in
    let out = set l.out i (c.in_ok-high.high * 16 + c.in_ok-low.low) in
    record {
      read = λ value gives.
          l.invariant.read value gives
          ∙ ap (λ (n : ℕ). onto (take n l.out) (pairs_of value (chunks_exact_rest l.i-iterator.iter))) (sym s.1)
          ∙ pair_next value c.in-Some.pair.now (chunks_exact_rest c.next.new.self.iter) s.0.1.0 two l.out i c.in_ok-high.high c.in_ok-low.low (search rules) (gives (get_or c.in-Some.pair.now 0 0) _ (search rules) c.in_ok-high.ensures) (gives (get_or c.in-Some.pair.now 1 0) _ (search rules) c.in_ok-low.ensures)
          ∙ ap (λ (n : ℕ). onto (take n out) (pairs_of value (chunks_exact_rest c.next.new.self.iter))) next;
      behind = subst (λ (n : ℕ). drop n out ≡ drop n c.args.out.now) next
          (drop_next l.out c.args.out.now i _ (subst (λ (n : ℕ). drop n l.out ≡ drop n c.args.out.now) (sym s.1) l.invariant.behind));
      same = simp length-set l.invariant.same;
      left = omega (arith, s.1, s.2, ap length s.0.1.0, length-append c.in-Some.pair.now (chunks_exact_rest c.next.new.self.iter), two, l.invariant.left);
      twos = s.0.0 ∙ l.invariant.twos;
    }

pub returns : goal.returns
returns g c = λ value gives.
    let l = c.loop-i in
    let few = c.in-None.ensures.steps.0.1.0 in
    pairs_done value c.args.word.now c.args.out.now l.out (chunks_exact_rest l.i-iterator.iter) l.i-iterator.count (length c.args.word.now / 2)
    (omega (arith, few, l.invariant.left, l.invariant.twos)) (omega (arith, few, l.invariant.left, l.invariant.twos)) (omega (arith, l.invariant.same))
    (l.invariant.read value gives) l.invariant.behind l.invariant.same

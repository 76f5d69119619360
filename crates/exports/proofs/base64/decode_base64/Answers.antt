use native.Mathlib.Omega.{arith}
use mathlib.Core.Path.{◌≡◌, refl, sym, ap, subst, ◌∙◌}
use mathlib.Core.List.{List, ◌++◌}
use mathlib.Core.Logic.{◌≢◌}
use Prim.Native.Nat.{ℕ, ◌*◌, ◌+◌}
use lib.ListN.{length, length-append, take}
use Rattle.std.specs.Slice.Iter.{chunks_exact_rest}
use Rattle.std.specs.Prelude.{Option, Some, None}
use Rattle.console.specs.Input.{onto}
use Rattle.exports.specs.Words.{DecodedPost}
use Rattle.exports.specs.Base64.{base64_of}
use Rattle.exports.proofs.Base64Laws.{base64_empty, base64_odd, next_four, group_more}
use borrow.Author.Rules.{rules}
use Rattle.exports.proofs.base64.decode_base64.Goals as goal

pub returns-then-is_empty : goal.returns-then-is_empty
returns-then-is_empty c = record { answer = base64_empty c.args.word.now c.args.out.now (search rules); free = refl }

pub returns-then-word-ne0 : goal.returns-then-word-ne0
returns-then-word-ne0 c = record { answer = base64_odd c.args.word.now c.if-word-ne0.true; free = refl }

pub returns-in_err-v : goal.returns-in_err-v
returns-in_err-v c =
    let l = c.loop-i in
    let s = c.in-Some.ensures.steps.0.1 in
    let some : length c.args.word.now ≢ 0 = search rules in
    let four : length c.split_at.result.1.now ≡ 4 = omega (arith, some, c.if-word-ne0.false, c.split_at.ensures.back_len) in
    let none : base64_of c.args.word.now ≡ None =
    l.invariant.read
    ∙ ap (onto (take (3 * l.i-iterator.count) l.out))
    (ap (λ (g : List ℕ). base64_of (g ++ c.split_at.result.1.now)) s.0
    ∙ next_four c.in-Some.group.now (chunks_exact_rest c.next.new.self.iter) c.split_at.result.1.now None (s.1 ∙ l.invariant.fours) four c.in_err-v.ensures.value) in
    subst (λ (r : Option ℕ). DecodedPost (base64_of c.args.word.now) c.args.out.now r l.out) (sym c.from_residual.ensures) (record { answer = none; free = l.invariant.same })

pub loop-i-preserved : goal.loop-i-preserved
loop-i-preserved c =
    let l = c.loop-i in
    let s = c.in-Some.ensures.steps in
    let last = c.split_at.result.1.now in
    let rest = chunks_exact_rest c.next.new.self.iter in
    let some : length c.args.word.now ≢ 0 = search rules in
    let four : length last ≡ 4 = omega (arith, some, c.if-word-ne0.false, c.split_at.ensures.back_len) in
    let v = c.in_ok-v.v in
    let after = c.put_three.new.out in
    let left : 4 * c.next.new.self.count + length rest ≡ length c.split_at.result.0.now =
    omega (arith, s.1, s.2, ap length s.0.1.0, length-append c.in-Some.group.now rest, s.0.1.1, l.invariant.fours, l.invariant.left) in
    record {
      read =
          l.invariant.read
          ∙ ap (λ (n : ℕ). onto (take n l.out) (base64_of (chunks_exact_rest l.i-iterator.iter ++ last))) (let e : 3 * l.i-iterator.count ≡ 3 * c.in-Some.i = omega (arith, s.1) in e)
          ∙ ap (onto (take (3 * c.in-Some.i) l.out))
          (ap (λ (g : List ℕ). base64_of (g ++ last)) s.0.1.0
          ∙ next_four c.in-Some.group.now rest last (Some v) (s.0.1.1 ∙ l.invariant.fours) four c.in_ok-v.ensures.value)
          ∙ group_more l.out after (rest ++ last) (3 * c.in-Some.i) v (omega (arith, left, s.1, s.2, c.requires, l.invariant.same, c.split_at.ensures.front_len)) c.put_three.ensures
          ∙ ap (λ (n : ℕ). onto (take n after) (base64_of (rest ++ last))) (let e : 3 * c.in-Some.i + 3 ≡ 3 * c.next.new.self.count = omega (arith, s.1, s.2) in e);
      same = c.put_three.auto.out ∙ l.invariant.same;
      left = left;
      fours = s.0.0 ∙ l.invariant.fours;
    }

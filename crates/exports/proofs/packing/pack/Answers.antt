use native.Mathlib.Omega.{arith}
use mathlib.Core.Path.{◌≡◌, refl, sym, subst, ◌∙◌}
use Prim.Native.Nat.{ℕ, ◌+◌}
use lib.ListN.{length}
use borrow.Author.Rules.{rules}
use Rattle.std.specs.Prelude.{Result, Err}
use Rattle.batch.proofs.PackingLaws.{open_behind}
use Rattle.console.specs.Input.{PieceOf}
use Rattle.exports.specs.declared.packing.PackError.{PackError}
use Rattle.exports.specs.Packing.{packing_of, PackedPost}
use Rattle.exports.proofs.LineLaws.{word_short}
use Rattle.exports.proofs.PackLaws.{Packs, packs_start, packs_turn, packs_refused, packs_end}
use Rattle.exports.proofs.packing.pack.Goals as goal

pub loop-n-init : goal.loop-n-init
loop-n-init c =
    let it = c.into_iter-n-iterator.result in
    let e : it.iter.rest.now ≡ c.args.text.now = search rules in
    let none : 0 ≡ it.count = search rules in (
      subst (λ (n : ℕ). Packs c.args.text.now c.put_word-first.new.out c.put_word-first.new.out (record { last = 0; end = c.put_word-first.result }) it.iter.rest.now n) none
          (packs_start c.args.text.now it.iter.rest.now c.args.out.now _ c.put_word-first.result e c.requires.room c.put_word-first.ensures),
      refl,
      search rules,
    )

pub pack_line-requires : goal.pack_line-requires
pack_line-requires c =
    let l = c.loop-n in
    let rest = l.n-iterator.iter.rest.now in
    let next = c.next.new.self.iter.rest.now in
    let p : PieceOf 10 rest c.in-Some.piece.now next = subst (λ (b : ℕ). PieceOf b rest c.in-Some.piece.now next) l.invariant.2 c.in-Some.ensures.steps.0.1 in
    record {
      behind = open_behind l.invariant.0.opened;
      inside = l.invariant.0.inside;
      room = omega (arith, word_short rest c.in-Some.piece.now next c.trim.result.now p c.trim.ensures, l.invariant.0.counted, l.invariant.1, c.requires.spare_room);
    }

pub returns-in_err-p : goal.returns-in_err-p
returns-in_err-p c =
    let l = c.loop-n in
    let s = c.in-Some.ensures.steps in
    let n = c.in-Some.n in
    let rest = l.n-iterator.iter.rest.now in
    let next = c.next.new.self.iter.rest.now in
    let p : PieceOf 10 rest c.in-Some.piece.now next = subst (λ (b : ℕ). PieceOf b rest c.in-Some.piece.now next) l.invariant.2 s.0.1 in
    let so_far : Packs c.args.text.now c.put_word-first.new.out l.out l.p rest n = subst (Packs c.args.text.now c.put_word-first.new.out l.out l.p rest) (sym s.1) l.invariant.0 in
    let post = packs_refused c.args.text.now c.put_word-first.new.out l.out l.p rest n so_far c.in-Some.piece.now next c.trim.result.now p c.trim.ensures c.args.out.now c.args.spare.now c.pack_line.new.spare c.put_word-first.result c.put_word-first.ensures (c.pack_line.auto.spare ∙ l.invariant.1) in
    let same : c.from_residual.result ≡ Err c.in_err-p.field-0.0 = search rules in
    subst (λ (r : Result ℕ PackError). PackedPost (packing_of (length c.args.out.now) c.args.text.now) c.args.spare.now c.args.out.now r c.pack_line.new.spare c.pack_line.new.out) (sym same)
    (post c.in_err-p.field-0.0 c.pack_line.new.out c.in_err-p.ensures)

pub loop-n-preserved : goal.loop-n-preserved
loop-n-preserved c =
    let l = c.loop-n in
    let s = c.in-Some.ensures.steps in
    let n = c.in-Some.n in
    let rest = l.n-iterator.iter.rest.now in
    let next = c.next.new.self.iter.rest.now in
    let p : PieceOf 10 rest c.in-Some.piece.now next = subst (λ (b : ℕ). PieceOf b rest c.in-Some.piece.now next) l.invariant.2 s.0.1 in
    let so_far : Packs c.args.text.now c.put_word-first.new.out l.out l.p rest n = subst (Packs c.args.text.now c.put_word-first.new.out l.out l.p rest) (sym s.1) l.invariant.0 in
    let more : n + 1 ≡ c.next.new.self.count = omega (arith, s.1, s.2) in (
      subst (Packs c.args.text.now c.put_word-first.new.out c.pack_line.new.out c.in_ok-p.p next) more
          (packs_turn c.args.text.now c.put_word-first.new.out l.out l.p rest n so_far c.in-Some.piece.now next c.trim.result.now p c.trim.ensures c.in_ok-p.p c.pack_line.new.out c.pack_line.auto.out c.in_ok-p.ensures),
      c.pack_line.auto.spare ∙ l.invariant.1,
      s.0.0 ∙ l.invariant.2,
    )

pub returns : goal.returns
returns c = let l = c.loop-n in
    packs_end c.args.text.now c.args.out.now c.args.spare.now l.spare c.put_word-first.new.out c.put_word-first.result c.put_word-first.ensures l.invariant.1 l.out l.p l.n-iterator.iter.rest.now l.n-iterator.count l.invariant.0 c.in-None.ensures.steps.0.1.0

use Rattle.std.proofs.Common.{ℕ, Result, true, false, [], sym, refl, subst, arith, length-set, rules, ◌∙◌}
use Rattle.lists.proofs.CellLaws.{past_set}
use Rattle.lists.specs.declared.decoding.DecodeError.{DecodeError}
use Rattle.lists.specs.Lists.{DecodePost}
use Rattle.lists.proofs.DecodingLaws.{handed_on, Going, going_start, going_next, going_stopped, going_end, going_stored, stored_stopped, stored_end}
use Rattle.lists.proofs.values.Sparse.decode_validated_into.Goals as goal

pub loop-at-init : goal.loop-at-init
loop-at-init c = let e = c.args.self in
    (subst (Going e.normal_precision e.sparse_precision c.args.bytes.now [] 0 0) (sym c.no_plain-plain.ensures) (going_start _ _ _ e.pair), refl, c.requires, refl, omega arith)

pub returns-in_err-v : goal.returns-in_err-v
returns-in_err-v c =
    let a = c.args in
    let i = c.loop-at.invariant in
    handed_on (λ (r : Result ℕ DecodeError). DecodePost a.self.normal_precision a.self.sparse_precision a.bytes.now a.out.now r c.loop-at.out) c.from_residual.result c.in_err-v.field-0.0 c.from_residual.ensures.1
    (record { answer = stored_stopped _ _ (going_stopped i.0 c.loop-at-test.true (rw c.in_err-v.was at c.next_value.ensures)); free = i.1 })

pub loop-at-preserved : goal.loop-at-preserved
loop-at-preserved c = let l = c.loop-at in
    let i = l.invariant in
    let a = rw c.in_ok-v.was at c.next_value.ensures in (
      going_stored l.out l.k c.in_ok-v.v (search rules) (going_next i.0 c.loop-at-test.true a c.later_plain-plain.ensures),
      simp length-set i.1,
      i.2,
      past_set l.k l.out c.args.out.now c.in_ok-v.v i.3,
      omega (arith, i.4, a.inside.0),
    )

pub returns-else-ends_valid : goal.returns-else-ends_valid
returns-else-ends_valid c = let i = c.loop-at.invariant in
    record {
      answer = stored_stopped _ _ (going_end i.0 c.loop-at-test.false false (sym c.ends_valid.ensures ∙ c.if-ends_valid.false));
      free = i.1;
    }

pub returns-then-ends_valid : goal.returns-then-ends_valid
returns-then-ends_valid c = let i = c.loop-at.invariant in
    record {
      answer = stored_end _ _ (search rules) (going_end i.0 c.loop-at-test.false true (sym c.ends_valid.ensures ∙ c.if-ends_valid.true));
      free = i.3;
    }

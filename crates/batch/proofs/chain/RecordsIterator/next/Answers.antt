-- The end of the chain, an error, or the next record.
use Rattle.std.proofs.Common.{length, sym, refl, ap, ◌∙◌, arith, rules, ◌+◌, ◌-◌, suc, drop, take, ◌≡◌, ℕ}
use Rattle.batch.specs.Chain.{length_at}
use Rattle.batch.specs.Records.{items_in}
use Rattle.batch.proofs.ChainLaws.{chain_end, chain_bad, left_next, record_inside}
use Rattle.batch.proofs.chain.RecordsIterator.next.Goals as goal

pub returns-then-index-eq0-clause-steps : goal.returns-then-index-eq0-clause-steps
returns-then-index-eq0-clause-steps c =
    let s = c.args.self.now in
    let e = chain_end (suc (length s.batch.now)) s.batch.now s.before s.next c.if-index-eq0.true in
    (e, e)

pub returns-then-not-is_record-clause-steps : goal.returns-then-not-is_record-clause-steps
returns-then-not-is_record-clause-steps c =
    let s = c.args.self.now in (
      chain_bad (length s.batch.now) s.batch.now s.before s.next c.if-index-eq0.false (sym c.is_record.ensures ∙ c.if-not-is_record.true),
      chain_end (suc (length s.batch.now)) s.batch.now s.before 0 refl,
    )

pub returns-then-not-is_record-clause-goes : goal.returns-then-not-is_record-clause-goes
returns-then-not-is_record-clause-goes c =
    let s = c.args.self.now in
    let bad = ap items_in (chain_bad (length s.batch.now) s.batch.now s.before s.next c.if-index-eq0.false (sym c.is_record.ensures ∙ c.if-not-is_record.true)) in
    let none = ap items_in (chain_end (suc (length s.batch.now)) s.batch.now s.before 0 refl) in
    search rules

pub word_at-requires : goal.word_at-requires
word_at-requires c =
    let s = c.args.self.now in
    omega (arith, (record_inside s.batch.now s.before s.next (sym c.is_record.ensures ∙ c.if-not-is_record.false)).inside)

pub word_at-self-requires : goal.word_at-self-requires
word_at-self-requires c =
    let s = c.args.self.now in
    omega (arith, (record_inside s.batch.now s.before s.next (sym c.is_record.ensures ∙ c.if-not-is_record.false)).inside)

pub slice_bounds-result-end : goal.slice_bounds-result-end
slice_bounds-result-end c =
    let s = c.args.self.now in
    omega (arith, (record_inside s.batch.now s.before s.next (sym c.is_record.ensures ∙ c.if-not-is_record.false)).inside, c.word_at.ensures)

pub returns-clause-steps : goal.returns-clause-steps
returns-clause-steps c =
    let s = c.args.self.now in (
      left_next s.batch.now s.before s.next c.word_at-self.result c.if-index-eq0.false (sym c.is_record.ensures ∙ c.if-not-is_record.false) c.word_at-self.ensures,
      ap (λ (n : ℕ). take n (drop (s.next + 8) s.batch.now)) (let e : s.next + 8 + c.word_at.result - (s.next + 8) ≡ length_at s.batch.now s.next = omega (arith, c.word_at.ensures) in e),
      refl,
    )

pub returns-clause-goes : goal.returns-clause-goes
returns-clause-goes c =
    let s = c.args.self.now in
    let next = ap items_in (left_next s.batch.now s.before s.next c.word_at-self.result c.if-index-eq0.false (sym c.is_record.ensures ∙ c.if-not-is_record.false) c.word_at-self.ensures) in
    search rules
